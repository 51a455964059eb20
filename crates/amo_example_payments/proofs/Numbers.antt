-- Payments numbered in their order.
use Rattle.std.proofs.Common.{◌≡◌, ◌+◌, List, [], ◌∷◌, ◌++◌, length, sym, ap, ◌∙◌, arith}
use Rattle.std.proofs.lemmas.List.{map_push, length-append}
use Rattle.std.proofs.lemmas.List.FromFn.{map-range_with_len_more}
use Rattle.amo_example_payments.specs.declared.day.payment.Payment.{Payment}
use Rattle.amo_example_payments.specs.Days.{AreNumbered, numbers_upto}

pub numbered_more : (xs : List Payment) (x : Payment) → AreNumbered xs → x.id ≡ length xs + 1 → AreNumbered (xs ++ x ∷ [])
numbered_more xs x h is =
    let size : length (xs ++ x ∷ []) ≡ length xs + 1 = length-append xs (x ∷ []) in
    map_push (λ (p : Payment). p.id) xs x ∙ ap (λ l. l ++ x.id ∷ []) h ∙ ap (λ n. numbers_upto (length xs) ++ n ∷ []) is
    ∙ sym (map-range_with_len_more (λ k. k + 1) 0 (length xs) (length xs) (omega arith)) ∙ ap numbers_upto (sym size)
