-- `record_of`: its promises, by the lemmas of OpenLines (amo_run_log) and Records.
use Rattle.std.proofs.Common.{◌≡◌, ◌-◌, take, length-drop, List, ℕ, Vec, Global, map, drop, length, sym, ap, ◌∙◌, arith}
use Rattle.std.specs.Prelude.{codes}
use Rattle.std.specs.Str.{bytes_eq}
use Rattle.std.proofs.Math.Seq.{take-length}
use Rattle.std.proofs.lemmas.List.{length-map, drop-map}
use Rattle.amo_run_log.proofs.OpenLines.{in_ok}
use Rattle.amo_run_files.proofs.Records.{too_few, same_record}
use Rattle.amo_run_files.proofs.header.record_of.Goals as goal

abbrev items : Vec ℕ Global → List ℕ
items v = v.items

pub returns-then-texts-lt5 : goal.returns-then-texts-lt5
returns-then-texts-lt5 c = sym (too_few (map items c.args.texts.now) (omega (arith, c.if-texts-lt5.true, length-map c.args.texts.now items)))

pub returns : goal.returns
returns c =
    let texts : List (List ℕ) = map items c.args.texts.now in
    let size : length c.args.texts.now - 5 ≡ length (drop 5 c.args.texts.now) = sym (length-drop 5 c.args.texts.now) in
    let whole : take (length c.args.texts.now - 5) (drop 5 c.args.texts.now) ≡ drop 5 c.args.texts.now = ap (λ n. take n (drop 5 c.args.texts.now)) size ∙ take-length (drop 5 c.args.texts.now) in
    let lines : map items (take (length c.args.texts.now - 5) (drop 5 c.args.texts.now)) ≡ drop 5 texts = ap (map items) whole ∙ sym (drop-map items 5 c.args.texts.now) in
    in_ok c.record_behind.result c.record_behind.ensures
    (λ found is. is ∙ same_record texts c.text_at-round.result.now c.text_at-boot.result.now c.text_at-givens.result.now c.text_at-workers.result.now _
    (omega (arith, c.if-texts-lt5.false, length-map c.args.texts.now items)) (ap (λ x. bytes_eq x (codes "amo-run 2")) (sym c.text_at.ensures) ∙ sym c.is_version.ensures ∙ c.if-not-is_version.false)
    c.text_at-round.ensures c.text_at-boot.ensures c.text_at-givens.ensures c.text_at-workers.ensures lines)
