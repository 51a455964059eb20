-- `JobSet::has`: the premises of its calls and its promises, by the lemmas of Shown.
use Rattle.std.proofs.Common.{◌≡◌, ◌-◌, ◌/◌, ◌%◌, ◌^◌, ◌<◌, ℕ, suc, List, length, get_or, eqb, bit_and, arith, ap, ◌∙◌, sym}
use Rattle.std.specs.Int.{bit_at}
use Rattle.std.proofs.lemmas.List.{get_or_read}
use Rattle.std.proofs.lemmas.Nat.Bits.{shr_and_one}
use Rattle.amo_sets.specs.Bits.{bit}
use Rattle.amo_sets.proofs.Shown.{member_of, word_of}
use Rattle.amo_sets.proofs.job_set.JobSet.has.Goals as goal

pub index-requires : goal.index-requires
index-requires c = let within = word_of c.self.inside c.args.self.now c.self.view_is c.self.invariant c.args.j c.requires.low c.requires.high in omega arith

-- the test of the code
test_is : (ws : List ℕ) (j k w : ℕ) → j ≡ suc k → w ≡ get_or ws (k / 64) w → k / 64 < length ws → eqb (bit_and (w / 2 ^ (k % 64)) 1) 1 ≡ bit ws j
test_is ws j k w e is lt = ap (λ b. eqb b 1) (shr_and_one w (k % 64) ∙ ap (λ (v : ℕ). bit_at v (k % 64)) (get_or_read ws (k / 64) w lt is 0)) ∙ ap (bit ws) (sym e)

pub returns : goal.returns
returns c =
    let within = word_of c.self.inside c.args.self.now c.self.view_is c.self.invariant c.args.j c.requires.low c.requires.high in
    test_is c.self.inside.words.items c.args.j (c.args.j - 1) _ (omega (arith, c.requires.low)) c.index.ensures within
    ∙ sym (member_of c.self.inside c.args.self.now c.self.view_is c.args.j c.requires.low c.requires.high)
