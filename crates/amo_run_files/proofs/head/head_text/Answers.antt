-- `head_text`: its promises, by the lemmas of Heads.
use Rattle.std.proofs.Common.{◌≡◌, ◌++◌, ◌∷◌, [], List, ℕ, codes, decimal, ap, ◌∙◌}
use Rattle.amo_run_files.proofs.Heads.{pieces}
use Rattle.amo_run_files.proofs.head.head_text.Goals as goal

pub returns : goal.returns
returns c =
    let r = c.args.recorded.now in
    let g = r.givens in
    let front : List ℕ = codes "amo-words 2" ++ 10 ∷ (codes "round " ++ (decimal r.round ++ 10 ∷ codes "boot ")) in
    let round : c.as_bytes.result.now ≡ front = c.as_bytes.ensures.value ∙ c.in_ok-round.ensures.ok in
    let boot : c.deref.result.now ≡ r.boot.items = c.deref.ensures.value in
    let givens : c.as_bytes-2.result.now ≡ 10 ∷ (codes "givens " ++ (decimal g.jobs ++ 32 ∷ (decimal g.workers ++ 32 ∷ (decimal g.beta ++ 10 ∷ [])))) = c.as_bytes-2.ensures.value ∙ c.in_ok-givens.ensures.ok in
    c.in_ok-extend_from_slice-3.ensures.items
    ∙ ap (λ (t : List ℕ). t ++ c.as_bytes-2.result.now) (c.in_ok-extend_from_slice-2.ensures.items
    ∙ ap (λ (t : List ℕ). t ++ c.deref.result.now) (c.in_ok-extend_from_slice.ensures.items ∙ ap (λ (t : List ℕ). t ++ c.as_bytes.result.now) c.new-text.ensures.items))
    ∙ ap (λ (t : List ℕ). (([] ++ t) ++ c.deref.result.now) ++ c.as_bytes-2.result.now) round
    ∙ ap (λ (t : List ℕ). (([] ++ front) ++ t) ++ c.as_bytes-2.result.now) boot
    ∙ ap (λ (t : List ℕ). (([] ++ front) ++ r.boot.items) ++ t) givens
    ∙ pieces (decimal r.round) r.boot.items (decimal g.jobs) (decimal g.workers) (decimal g.beta)
