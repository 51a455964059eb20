-- The texts that are the same in each picture of a kind.
use Rattle.std.specs.Prelude.{ℕ, List, [], ◌∷◌, codes}
use Rattle.amo_svg.specs.declared.wording.Wording.{Wording}
use Rattle.amo_svg.specs.declared.wording.Wording.TheVariants.{SvgOpen, Title, More, LightStyle, DarkStyle, LanesKey, BarsKey, HandsKey, LinesKey, CrossesKey, ColumnsKey, NarrowLanesKey, BandKey, FreeTitle}

-- the beginning of a picture, its title, the description for a reader that doesn't see it, its
-- colours, the words of the marks, and the title of the last lane of the band
unfoldable pub fixed_text : Wording → List ℕ
fixed_text SvgOpen = codes "<svg xmlns=\"http://www.w3.org/2000/svg\" lang=\"en\" role=\"img\" font-family=\"monospace\" font-size=\"12\" viewBox=\"0 0 "
fixed_text Title = codes "<title>Run of a plan</title>\n<desc>"
fixed_text More = codes "\nThe moves as text: amo_show trace</desc>\n"
fixed_text LightStyle = codes "<style>\n.g{fill:#fff}.i{fill:#1f2328}.f{fill:#59636e}.c{fill:#0072b2}.x{fill:#b84a00}\n.li,.lf,.lc,.lx,.lb,.lp{fill:none}\n.li{stroke:#1f2328}.lf{stroke:#59636e}.lc{stroke:#0072b2}.lx{stroke:#b84a00}.lb{stroke:#8c959f}.lp{stroke:#c4ccd4}\n"
fixed_text DarkStyle = codes "@media(prefers-color-scheme:dark){\n.g{fill:#0d1117}.i{fill:#e6edf3}.f{fill:#9198a1}.c{fill:#56b4e9}.x{fill:#e69f00}\n.li{stroke:#e6edf3}.lf{stroke:#9198a1}.lc{stroke:#56b4e9}.lx{stroke:#e69f00}.lb{stroke:#6e7681}.lp{stroke:#3d444d}\n}\n</style>\n"
fixed_text LanesKey = codes "A lane is a worker, a row a move. Disc: it announces a job, and the wide"
fixed_text BarsKey = codes "bar is how long that stands. Squares: it claims a job, then has done it;"
fixed_text HandsKey = codes "between them it has the job in hand. Diamond: a load that sees a job, with"
fixed_text LinesKey = codes "a line to whose word it is, thick where it makes the attempt fail. Cross:"
fixed_text CrossesKey = codes "the attempt has failed. Small square: a load of 0."
fixed_text ColumnsKey = codes "Down are the moves. Left, a column is a job: marked from its claim on, grey once it is done, empty while unclaimed."
fixed_text NarrowLanesKey = codes "Right, a lane is a worker: a tick on the left is a claim, on the right a failed attempt. Below, how many it has done."
fixed_text BandKey = codes "Under the columns: who has claimed a job, by a mark in that worker's lane, a low one where it hasn't done it; none: nobody."
fixed_text FreeTitle = codes "<g><title>unclaimed</title>\n"

-- the lines of what the marks say, in a picture of rows and in one of jobs
abbrev pub rows_key : List Wording
rows_key = LanesKey ∷ BarsKey ∷ HandsKey ∷ LinesKey ∷ CrossesKey ∷ []

-- the lines on the marks in a picture of jobs
abbrev pub jobs_key : List Wording
jobs_key = ColumnsKey ∷ NarrowLanesKey ∷ BandKey ∷ []
