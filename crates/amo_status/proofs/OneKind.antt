-- Each standing is of one kind.
use Rattle.std.proofs.Common.{◌≡◌, ℕ, suc, ◌+◌, cond, List, [], ◌∷◌, length, refl, arith}
use Rattle.std.proofs.lemmas.List.Sums.{sum_by-cons}
use Rattle.amo_status.specs.declared.standing.LineStatus.{LineStatus}
use Rattle.amo_status.specs.declared.state.State.{State}
use Rattle.amo_status.specs.declared.state.State.TheVariants.{Open, Done, Failed, Doubt, Untouched, Running}
use Rattle.amo_status.specs.Counts.{count_of}
use Rattle.amo_status.specs.States.{is}

one_more : (s : State) (a b c d e f n : ℕ) → a + b + c + d + e + f ≡ n
    → (cond (is Done s) 1 0 + a) + (cond (is Failed s) 1 0 + b) + (cond (is Doubt s) 1 0 + c) + (cond (is Untouched s) 1 0 + d) + (cond (is Running s) 1 0 + e) + (cond (is Open s) 1 0 + f) ≡ suc n
one_more Open a b c d e f n all = omega (arith, all)
one_more Done a b c d e f n all = omega (arith, all)
one_more Failed a b c d e f n all = omega (arith, all)
one_more Doubt a b c d e f n all = omega (arith, all)
one_more Untouched a b c d e f n all = omega (arith, all)
one_more Running a b c d e f n all = omega (arith, all)

step : (kind : State) (s : LineStatus) (ss : List LineStatus) → count_of kind (s ∷ ss) ≡ cond (is kind s.state) 1 0 + count_of kind ss
step kind s ss = sum_by-cons (λ (x : LineStatus). cond (is kind x.state) 1 0) s ss

pub all_counted : (ss : List LineStatus) → count_of Done ss + count_of Failed ss + count_of Doubt ss + count_of Untouched ss + count_of Running ss + count_of Open ss ≡ length ss
all_counted [] = refl
all_counted (s ∷ ss) =
    let more = one_more s.state (count_of Done ss) (count_of Failed ss) (count_of Doubt ss) (count_of Untouched ss) (count_of Running ss) (count_of Open ss) (length ss) (all_counted ss) in
    omega (arith, more, step Done s ss, step Failed s ss, step Doubt s ss, step Untouched s ss, step Running s ss, step Open s ss)
