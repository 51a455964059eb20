-- `texts_in`: what its loop keeps and its promises, by the lemmas of Blocks and Chains.
use Rattle.std.proofs.Common.{rules, ◌≡◌, ◌++◌, ◌∷◌, [], List, ℕ, sym, ap, subst, ◌∙◌}
use Rattle.amo_journal.specs.Logs.{records_of}
use Rattle.amo_journal.specs.Texts.{texts_in}
use Rattle.amo_journal.proofs.Blocks.{block_read, all_read}
use Rattle.amo_journal.proofs.Chains.{records_of-push}
use Rattle.amo_journal.proofs.reading.texts_in.Goals as goal

pub loop-text-preserved : goal.loop-text-preserved
loop-text-preserved c =
    let so_far = records_of c.loop-text.texts.items in
    let same : c.in_ok-to_vec.field-0.items ≡ c.in-Some.text.now = search rules in
    let pushed : records_of c.push.new.self.items ≡ so_far ++ c.in-Some.text.now ∷ [] =
    ap records_of c.in_ok-push.ensures.items ∙ records_of-push c.loop-text.texts.items c.in_ok-to_vec.field-0 ∙ ap (λ (t : List ℕ). so_far ++ t ∷ []) same in
    subst (λ (ts : List (List ℕ)). ts ++ texts_in c.in-Some.behind.now ≡ texts_in c.args.bytes.now) (sym pushed)
    (block_read so_far c.in-Some.text.now c.in-Some.behind.now c.loop-text.rest.now (texts_in c.args.bytes.now) c.loop-text.invariant c.in-Some.ensures.found c.in-Some.ensures.one_line)

pub returns : goal.returns
returns c = record { exact = all_read _ c.loop-text.rest.now _ c.loop-text.invariant c.in_default.ensures.none }
