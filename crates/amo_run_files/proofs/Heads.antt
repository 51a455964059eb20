-- The pieces of a head, as they are added.
use Rattle.std.proofs.Common.{◌≡◌, ℕ, ◌-◌, ◌<◌, Bool, cond, List, [], ◌∷◌, ◌++◌, length, take, replicate, Some, None, codes, sym, ap, ◌∙◌, arith, append_assoc, take_all, lt-ltb}
use Rattle.amo_run_log.specs.Texts.{ended}
use Rattle.amo_run_files.specs.declared.head.TheConstants.{HEAD_LEN}
use Rattle.amo_run_files.specs.Heads.{filled_up}

pub pieces : (round boot jobs workers beta : List ℕ) → (([] ++ (codes "amo-words 2" ++ 10 ∷ (codes "round " ++ (round ++ 10 ∷ codes "boot ")))) ++ boot) ++ (10 ∷ (codes "givens " ++ (jobs ++ 32 ∷ (workers ++ 32 ∷ (beta ++ 10 ∷ [])))))
    ≡ ended (codes "amo-words 2" ∷ ((codes "round " ++ round) ∷ ((codes "boot " ++ boot) ∷ ((codes "givens " ++ (jobs ++ 32 ∷ (workers ++ 32 ∷ beta))) ∷ []))))
pieces round boot jobs workers beta = simp append_assoc

pub filled : (text resized pushed : List ℕ) (size : ℕ) → size ≡ length text → size < HEAD_LEN → resized ≡ take (HEAD_LEN - 1) text ++ replicate (HEAD_LEN - 1 - size) 32 → pushed ≡ resized ++ 10 ∷ [] → Some pushed ≡ filled_up text
filled text resized pushed size is fits blanks end =
    let room : length text < HEAD_LEN = omega arith in
    let are : pushed ≡ text ++ (replicate (HEAD_LEN - 1 - length text) 32 ++ 10 ∷ []) =
    end ∙ ap (λ (t : List ℕ). t ++ 10 ∷ []) (blanks ∙ ap (λ (t : List ℕ). t ++ replicate (HEAD_LEN - 1 - size) 32) (take_all (HEAD_LEN - 1) text (omega arith)) ∙ ap (λ (n : ℕ). text ++ replicate (HEAD_LEN - 1 - n) 32) is)
    ∙ append_assoc text (replicate (HEAD_LEN - 1 - length text) 32) (10 ∷ []) in
    ap Some are ∙ sym (ap (λ (t : Bool). cond t (Some (text ++ (replicate (HEAD_LEN - 1 - length text) 32 ++ 10 ∷ []))) None) (lt-ltb (length text) HEAD_LEN room))
