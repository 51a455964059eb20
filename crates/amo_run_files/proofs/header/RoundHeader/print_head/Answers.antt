-- `RoundHeader::print_head`: its promises, by the lemmas of Records.
use Rattle.std.proofs.Common.{◌≡◌, ◌++◌, ◌∷◌, [], List, ℕ, map, rules, ap, ◌∙◌}
use Rattle.std.specs.Prelude.{codes}
use Rattle.std.specs.Fmt.{decimal}
use Rattle.amo_run_log.specs.Texts.{ended}
use Rattle.amo_run_files.proofs.Records.{pieces}
use Rattle.amo_run_files.proofs.header.RoundHeader.print_head.Goals as goal

pub returns : goal.returns
returns c =
    let rest : List ℕ = ended (map (λ line. decimal line) c.args.self.now.lines.items) in
    let empty : c.new-text.result.items ≡ [] = search rules in
    let round : c.as_bytes.result.now ≡ decimal c.args.self.now.round = c.as_bytes.ensures.value ∙ c.in_ok-round.ensures.ok in
    let boot : c.deref.result.now ≡ c.args.self.now.boot.items = c.deref.ensures.value in
    let givens : c.as_bytes-2.result.now ≡ decimal c.args.self.now.givens.jobs ++ (32 ∷ (decimal c.args.self.now.givens.workers ++ 32 ∷ decimal c.args.self.now.givens.beta)) = c.as_bytes-2.ensures.value ∙ c.in_ok-givens.ensures.ok in
    let sharing : c.as_bytes-3.result.now ≡ decimal c.args.self.now.workers ++ 32 ∷ decimal c.args.self.now.first = c.as_bytes-3.ensures.value ∙ c.in_ok-sharing.ensures.ok in
    ap (λ t. t ++ rest) (c.in_ok-push_labelled-4.ensures
    ∙ ap (λ t. t ++ (codes "workers " ++ (c.as_bytes-3.result.now ++ 10 ∷ []))) (c.in_ok-push_labelled-3.ensures
    ∙ ap (λ t. t ++ (codes "givens " ++ (c.as_bytes-2.result.now ++ 10 ∷ []))) (c.in_ok-push_labelled-2.ensures
    ∙ ap (λ t. t ++ (codes "boot " ++ (c.deref.result.now ++ 10 ∷ []))) (c.in_ok-push_labelled.ensures
    ∙ ap (λ t. t ++ (codes "round " ++ (c.as_bytes.result.now ++ 10 ∷ []))) (c.in_ok-push.ensures ∙ ap (λ t. t ++ (codes "amo-run 2" ++ 10 ∷ [])) empty)))))
    ∙ pieces (codes "amo-run 2") (codes "round ") c.as_bytes.result.now (codes "boot ") c.deref.result.now (codes "givens ") c.as_bytes-2.result.now (codes "workers ") c.as_bytes-3.result.now rest
    ∙ ap (λ x. codes "amo-run 2" ++ 10 ∷ ((codes "round " ++ x) ++ 10 ∷ ((codes "boot " ++ c.deref.result.now) ++ 10 ∷ ((codes "givens " ++ c.as_bytes-2.result.now) ++ 10 ∷ ((codes "workers " ++ c.as_bytes-3.result.now) ++ 10 ∷ rest))))) round
    ∙ ap (λ x. codes "amo-run 2" ++ 10 ∷ ((codes "round " ++ decimal c.args.self.now.round) ++ 10 ∷ ((codes "boot " ++ x) ++ 10 ∷ ((codes "givens " ++ c.as_bytes-2.result.now) ++ 10 ∷ ((codes "workers " ++ c.as_bytes-3.result.now) ++ 10 ∷ rest))))) boot
    ∙ ap (λ x. codes "amo-run 2" ++ 10 ∷ ((codes "round " ++ decimal c.args.self.now.round) ++ 10 ∷ ((codes "boot " ++ c.args.self.now.boot.items) ++ 10 ∷ ((codes "givens " ++ x) ++ 10 ∷ ((codes "workers " ++ c.as_bytes-3.result.now) ++ 10 ∷ rest))))) givens
    ∙ ap (λ x. codes "amo-run 2" ++ 10 ∷ ((codes "round " ++ decimal c.args.self.now.round) ++ 10 ∷ ((codes "boot " ++ c.args.self.now.boot.items) ++ 10 ∷ ((codes "givens " ++ (decimal c.args.self.now.givens.jobs ++ (32 ∷ (decimal c.args.self.now.givens.workers ++ 32 ∷ decimal c.args.self.now.givens.beta)))) ++ 10 ∷ ((codes "workers " ++ x) ++ 10 ∷ rest))))) sharing
