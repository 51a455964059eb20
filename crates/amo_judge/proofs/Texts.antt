-- Whether bytes are text.
use Rattle.std.proofs.Common.{◌≡◌, ℕ, Bool, cond, List, Some, None, IsUtf8, sym, ap, ◌∙◌}
use Rattle.std.specs.Str.{is_utf8}
use Rattle.std.proofs.lemmas.Bool.{false_from_ne_true}
use Rattle.std.proofs.lemmas.Str.{IsUtf8-from_is_utf8, is_utf8-from_IsUtf8}
use Rattle.amo_judge.specs.Roll.{text_in}

pub is_text : (bytes text : List ℕ) → text ≡ bytes → IsUtf8 bytes → Some text ≡ text_in bytes
is_text bytes text same u = ap (λ (t : List ℕ). Some t) same ∙ sym (ap (λ (b : Bool). cond b (Some bytes) None) (is_utf8-from_IsUtf8 bytes u))

pub is_no_text : (bytes : List ℕ) → ¬ (IsUtf8 bytes) → None ≡ text_in bytes
is_no_text bytes isnt = sym (ap (λ (b : Bool). cond b (Some bytes) None) (false_from_ne_true (is_utf8 bytes) (λ t. isnt (IsUtf8-from_is_utf8 bytes t))))
