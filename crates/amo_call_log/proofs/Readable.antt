-- Texts that are UTF-8, and those that aren't.
use Rattle.std.proofs.Common.{◌≡◌, ◌<◌, ℕ, List, [], ◌∷◌, Bool, true, false, cond, refl, ap, arith}
use Rattle.std.specs.Prelude.{◌&&◌, nat_le, length}
use Rattle.std.specs.List.{list_all}
use Rattle.std.specs.Str.{is_utf8, IsAscii, IsUtf8}
use Rattle.std.proofs.lemmas.Bool.Decides.{nat_tests}
use Rattle.std.proofs.lemmas.Str.{IsUtf8-from_ascii, IsUtf8-from_is_utf8, is_utf8-from_IsUtf8}
use Rattle.std.proofs.lemmas.Str.Ascii.{IsAscii-nil, IsAscii-cons}
use Rattle.amo_call_log.specs.Shown.{is_plain, is_printed, readable}
use Rattle.amo_call_log.specs.declared.shown.TheConstants.{LONGEST}

-- the two sides of a conjunction
and_parts : (a b : Bool) → (a && b) ≡ true → (a ≡ true) × (b ≡ true)
and_parts true b h = (refl, h)
and_parts false b h = absurd (cc)

-- a text that is UTF-8 is all of it
pub readable_text : (bytes : List ℕ) → IsUtf8 bytes → readable bytes ≡ bytes
unfolding readable
readable_text bytes is = ap (λ (b : Bool). cond b bytes []) (is_utf8-from_IsUtf8 bytes is)

-- one that isn't is nothing
pub readable_none : (bytes : List ℕ) → ¬ (IsUtf8 bytes) → readable bytes ≡ []
unfolding readable
readable_none bytes never = by_test (is_utf8 bytes) refl
  where
    by_test : (b : Bool) → is_utf8 bytes ≡ b → cond b bytes [] ≡ []
    by_test true is = absurd (never (IsUtf8-from_is_utf8 bytes is))
    by_test false is = refl

-- both, for `readable`
pub ruleset readings = (readable_text, readable_none)

-- bytes that ASCII prints are ASCII
ascii_by_prints : (bytes : List ℕ) → list_all is_printed bytes ≡ true → IsAscii bytes
ascii_by_prints [] all = IsAscii-nil
ascii_by_prints (byte ∷ bytes) all =
    let (first, rest) = and_parts (is_printed byte) (list_all is_printed bytes) all in
    IsAscii-cons byte bytes (small byte (and_parts (nat_le 32 byte) (nat_le byte 126) first).1) (ascii_by_prints bytes rest)
  where
    small : (n : ℕ) → nat_le n 126 ≡ true → n < 128
    small n h = grind (arith, nat_tests)

-- a text that a line may show is UTF-8
pub plain_is_readable : (bytes : List ℕ) → is_plain bytes ≡ true → readable bytes ≡ bytes
plain_is_readable bytes plain =
    readable_text bytes (IsUtf8-from_ascii bytes (ascii_by_prints bytes (and_parts (nat_le (length bytes) LONGEST) (list_all is_printed bytes) plain).1))
