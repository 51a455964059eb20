-- A text as JSON: a string, or null if the bytes are not UTF-8.
use Rattle.std.proofs.Common.{◌≡◌, ℕ, cond, List, codes, sym, ap, ◌∙◌}
use Rattle.std.specs.Str.{IsUtf8, is_utf8}
use Rattle.std.proofs.lemmas.Bool.{false_from_ne_true}
use Rattle.std.proofs.lemmas.Str.{IsUtf8-from_is_utf8, is_utf8-from_IsUtf8}
use Rattle.json.specs.Print.{quoted}
use Rattle.amo_status.specs.Json.{text_or_null}

pub a_text : (bytes text : List ℕ) → IsUtf8 bytes → text ≡ bytes → quoted text ≡ text_or_null bytes
a_text bytes text utf8 same = ap quoted same ∙ sym (ap (λ b. cond b (quoted bytes) (codes "null")) (is_utf8-from_IsUtf8 bytes utf8))

pub no_text : (bytes : List ℕ) → ¬ (IsUtf8 bytes) → codes "null" ≡ text_or_null bytes
no_text bytes never = sym (ap (λ b. cond b (quoted bytes) (codes "null")) (false_from_ne_true (is_utf8 bytes) (λ e. never (IsUtf8-from_is_utf8 bytes e))))
