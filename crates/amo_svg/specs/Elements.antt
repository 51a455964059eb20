-- The elements of a picture, each a line. C is a class, the name of a colour.
use Rattle.std.specs.Prelude.{ℕ, List, ◌++◌, codes}
use Rattle.std.specs.Fmt.{decimal}

-- ` NAME="VALUE`, after what is before, whose last quote comes first
unfoldable pub attribute : List ℕ → ℕ → List ℕ
attribute name value = codes "\" " ++ name ++ codes "=\"" ++ decimal value

-- two of them, and the end of their tag
unfoldable pub two_attributes : List ℕ → ℕ → List ℕ → ℕ → List ℕ
two_attributes first a second b = attribute first a ++ attribute second b ++ codes "\">"

-- `<text class="C" x="X" y="Y">`
unfoldable pub text_start : List ℕ → ℕ → ℕ → List ℕ
text_start c x y = codes "<text class=\"" ++ c ++ two_attributes (codes "x") x (codes "y") y

-- `<text class="C" text-anchor="A" x="X" y="Y">`
unfoldable pub anchored_start : List ℕ → List ℕ → ℕ → ℕ → List ℕ
anchored_start anchor c x y = codes "<text class=\"" ++ c ++ codes "\" text-anchor=\"" ++ anchor ++ two_attributes (codes "x") x (codes "y") y

-- words that begin at a place
abbrev pub text : List ℕ → ℕ → ℕ → List ℕ → List ℕ
text c x y words = text_start c x y ++ words ++ codes "</text>\n"

-- a number that is anchored at a place, by its end or its middle
abbrev pub anchored_number : List ℕ → List ℕ → ℕ → ℕ → ℕ → List ℕ
anchored_number anchor c x y n = anchored_start anchor c x y ++ decimal n ++ codes "</text>\n"

-- a number that ends at a place
abbrev pub number_before : List ℕ → ℕ → ℕ → ℕ → List ℕ
number_before c x y n = anchored_number (codes "end") c x y n

-- `<path class="C" d="`
unfoldable pub area_start : List ℕ → List ℕ
area_start c = codes "<path class=\"" ++ c ++ codes "\" d=\""

-- `<path class="lC" stroke-width="W" d="`
unfoldable pub stroke_start : List ℕ → ℕ → List ℕ
stroke_start c w = codes "<path class=\"l" ++ c ++ attribute (codes "stroke-width") w ++ codes "\" d=\""

-- `<path class="lC" stroke-dasharray="1 3" d="`
unfoldable pub dotted_start : List ℕ → List ℕ
dotted_start c = codes "<path class=\"l" ++ c ++ codes "\" stroke-dasharray=\"1 3\" d=\""

-- `MX Y`
unfoldable pub at_place : ℕ → ℕ → List ℕ
at_place x y = codes "M" ++ decimal x ++ codes " " ++ decimal y

-- a shape that is filled, and one that is drawn by a line
abbrev pub area_at : List ℕ → ℕ → ℕ → List ℕ → List ℕ
area_at c x y shape = area_start c ++ at_place x y ++ shape ++ codes "\"/>\n"

-- a shape at a place, drawn by a line of this width
abbrev pub stroke_at : List ℕ → ℕ → ℕ → ℕ → List ℕ → List ℕ
stroke_at c w x y shape = stroke_start c w ++ at_place x y ++ shape ++ codes "\"/>\n"

-- a straight line from a place: the way is `v`, so far down, or `h`, so far to the right
abbrev pub straight : List ℕ → ℕ → ℕ → ℕ → List ℕ → ℕ → List ℕ
straight c w x y way far = stroke_start c w ++ at_place x y ++ way ++ decimal far ++ codes "\"/>\n"
