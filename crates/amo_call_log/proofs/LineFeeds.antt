-- A text without the line feeds at its end, byte by byte from its end.
use Rattle.std.proofs.Common.{◌≡◌, ◌≢◌, ◌<◌, ◌≤◌, ◌+◌, ◌-◌, ℕ, List, [], ◌∷◌, ◌++◌, Bool, false, cond, take, length, get_or, refl, sym, ap, subst, ◌∙◌, arith}
use Rattle.std.specs.Prelude.{◌==◌}
use Rattle.std.proofs.lemmas.Bool.Decides.{nat_tests}
use Rattle.std.proofs.lemmas.List.{take_more}
use Rattle.amo_call_log.specs.Shown.{byte_before, without_line_feeds}

-- a line feed at the end is left out
feed_at_end : (text : List ℕ) → without_line_feeds (text ++ 10 ∷ []) ≡ without_line_feeds text
unfolding without_line_feeds
feed_at_end [] = refl
feed_at_end (byte ∷ text) = ap (byte_before byte) (feed_at_end text)

-- a byte stays before what isn't empty
byte_before-more : (byte : ℕ) (text : List ℕ) (last : ℕ) → byte_before byte (text ++ last ∷ []) ≡ byte ∷ (text ++ last ∷ [])
byte_before-more byte [] last = refl
byte_before-more byte (next ∷ text) last = refl

-- a text that ends otherwise stays
other_at_end : (text : List ℕ) (last : ℕ) → (last == 10) ≡ false → without_line_feeds (text ++ last ∷ []) ≡ text ++ last ∷ []
unfolding without_line_feeds
other_at_end [] last other = ap (λ (b : Bool). cond b [] (last ∷ [])) other
other_at_end (byte ∷ text) last other =
    ap (byte_before byte) (other_at_end text last other) ∙ byte_before-more byte text last

-- so many bytes of a text are those before the last of them, and that one
front_and_last : (text : List ℕ) (len : ℕ) → 0 < len → len ≤ length text → take len text ≡ take (len - 1) text ++ get_or text (len - 1) 0 ∷ []
front_and_last text len some within =
    let counts : len ≡ (len - 1) + 1 = omega arith in
    ap (λ n. take n text) counts ∙ take_more text (len - 1) 0 (omega arith)

not_feed : (b : ℕ) → b ≢ 10 → (b == 10) ≡ false
not_feed b other = grind (arith, nat_tests)

-- so many bytes that end otherwise stay
pub ends_otherwise : (text : List ℕ) (len : ℕ) → 0 < len → len ≤ length text → get_or text (len - 1) 0 ≢ 10 → without_line_feeds (take len text) ≡ take len text
ends_otherwise text len some within other =
    let is = front_and_last text len some within in
    ap without_line_feeds is ∙ other_at_end (take (len - 1) text) (get_or text (len - 1) 0) (not_feed _ other) ∙ sym is

-- of so many bytes that end by a line feed it is left out
pub ends_with_feed : (text : List ℕ) (len : ℕ) → 0 < len → len ≤ length text → get_or text (len - 1) 0 ≡ 10 → without_line_feeds (take (len - 1) text) ≡ without_line_feeds (take len text)
ends_with_feed text len some within feed =
    let is = front_and_last text len some within in
    sym (ap without_line_feeds is ∙ ap (λ b. without_line_feeds (take (len - 1) text ++ b ∷ [])) feed ∙ feed_at_end (take (len - 1) text))

-- of no bytes nothing is left
pub is_all_feeds : (text : List ℕ) (len : ℕ) → len ≤ 0 → without_line_feeds (take len text) ≡ []
unfolding without_line_feeds
is_all_feeds text len none = let is : len ≡ 0 = omega arith in subst (λ n. without_line_feeds (take n text) ≡ []) (sym is) refl

-- all three, for `without_line_feeds`
pub ruleset endings = (ends_otherwise, ends_with_feed, is_all_feeds)
