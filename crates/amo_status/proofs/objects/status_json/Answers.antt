-- `status_json`: its promises, by the lemmas of RowSteps.
use Rattle.std.proofs.Common.{◌++◌, ◌∷◌, [], false, None, List, ℕ, Bor, map}
use Rattle.std.specs.Prelude.{codes}
use Rattle.amo_status.specs.declared.heading.Style.TheVariants.{Members}
use Rattle.amo_status.specs.Headings.{counts_text}
use Rattle.amo_status.specs.Json.{json_numbers, json_rows}
use Rattle.amo_status.proofs.RowSteps.{status_put}
use Rattle.amo_status.proofs.objects.status_json.Goals as goal

pub returns : goal.returns
returns c =
    status_put c.new-text.result.items c.extend_from_slice.new.self.items c.push_counts.new.text.items c.extend_from_slice-2.new.self.items c.push_numbers.new.text.items c.extend_from_slice-3.new.self.items c.push_json_rows.new.text.items c.extend_from_slice-4.new.self.items
    (codes "{") (counts_text Members c.args.counts.now) (codes ",\"alive\":[") (json_numbers false c.args.alive.now) (codes "],\"intents\":[")
    (json_rows None false 0 c.args.standings.now (map (λ (t : Bor (List ℕ)). t.now) c.args.texts.now)) (codes "]}" ++ 10 ∷ [])
    c.new-text.ensures.items c.in_ok-extend_from_slice.ensures.items c.in_ok-push_counts.ensures c.in_ok-extend_from_slice-2.ensures.items c.in_ok-push_numbers.ensures c.in_ok-extend_from_slice-3.ensures.items c.in_ok-push_json_rows.ensures c.in_ok-extend_from_slice-4.ensures.items
