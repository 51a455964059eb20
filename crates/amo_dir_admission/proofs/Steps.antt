-- One call more.
use Rattle.std.proofs.Common.{◌≡◌, List, [], ◌∷◌, ◌++◌, refl, sym, ap, ◌∙◌, subst}
use Rattle.amo_dir_admission.specs.Calls.{Call, request_of}
use Rattle.amo_dir_admission.specs.Phase.{Phase}
use Rattle.amo_dir_admission.specs.Protocol.{phase_after, phase_after_all, Allows, AreAllowed, MayCall, Moves, Stands}

after_more : (ph : Phase) (cs : List Call) (c : Call) → phase_after_all ph (cs ++ c ∷ []) ≡ phase_after (phase_after_all ph cs) c
after_more ph [] c = refl
after_more ph (x ∷ cs) c = after_more (phase_after ph x) cs c

allowed_more : (ph : Phase) (cs : List Call) (c : Call) → AreAllowed ph cs → Allows (phase_after_all ph cs) (request_of c) → AreAllowed ph (cs ++ c ∷ [])
allowed_more ph [] c all it = (it, tt)
allowed_more ph (x ∷ cs) c all it = (all.0, allowed_more (phase_after ph x) cs c all.1 it)

-- a call that is allowed leads on
pub stands_more : (first : Phase) (cs : List Call) (c : Call) → Moves (Stands first cs) (Stands first (cs ++ c ∷ [])) c
stands_more first cs c ph stands allowed = (
  allowed_more first cs c stands.0 (subst (λ (p : Phase). Allows p (request_of c)) (sym stands.1) allowed),
  after_more first cs c ∙ ap (λ (p : Phase). phase_after p c) stands.1,
)

-- what may be called was allowed
pub calls_allowed : (first : Phase) (cs : List Call) (c : Call) → MayCall (Stands first cs) (request_of c) → AreAllowed first (cs ++ c ∷ [])
calls_allowed first cs c may = allowed_more first cs c may.1.0 (subst (λ (p : Phase). Allows p (request_of c)) (sym may.1.1) may.2)
