-- Processes over one list of shared words, each doing what is due at its stage.
use Rattle.std.specs.Prelude.{◌≡◌, ⊤, ℕ, List, [], ◌∷◌, ◌++◌, Some, set, slice_index, replicate}
use Rattle.amo_sets.specs.Lists.{numbered, put, table}
use Rattle.amo_params.specs.Givens.{IsWorker}
use Rattle.amo_params.specs.declared.givens.Givens.{Givens}
use Rattle.amo_kk.specs.Words.{word_count}
use Rattle.amo_driver.specs.declared.model.Deed.{Deed}
use Rattle.amo_driver.specs.declared.model.Deed.TheVariants.{Loaded, Stored}
use Rattle.amo_driver.specs.declared.model.Try.{Try}
use Rattle.amo_driver.specs.declared.model.Try.TheVariants.{Store, Perform}
use Rattle.amo_driver.specs.Stage.{Stage, Gone, Broken}
use Rattle.amo_driver.specs.Course.{try_of, due, stage_after, first_stage}
use Rattle.amo_driver_safety.specs.declared.model.Moment.{Moment}
use Rattle.amo_driver_safety.specs.declared.model.Moment.TheVariants.{Does, Loses, Begins}

-- The shared words, and for each worker where its process stands.
pub record Scene : Type 0 where
  pub words : List ℕ
  pub stages : List Stage

-- all words are 0, and there is no process: nothing is due anywhere
abbrev pub first_scene : Givens → Scene
first_scene g = record { words = replicate (word_count g) 0; stages = table g.workers (λ _. Gone) }

-- the stage of the process of worker p
abbrev pub stage_at : Scene → ℕ → Stage
stage_at s p = numbered Gone s.stages p

-- the words after what was tried has come about: a store writes its word
abbrev pub words_after_try : List ℕ → Try → List ℕ
words_after_try words (Store w v) = set words w v
words_after_try words t = words

-- the words after a deed: what fell has not come about
abbrev pub words_after_deed : List ℕ → Deed → List ℕ
words_after_deed words (Stored w v) = set words w v
words_after_deed words d = words

-- after the next moment
abbrev pub scene_after : Givens → Scene → Moment → Scene
scene_after g s (Does p d) = record { words = words_after_deed s.words d; stages = put s.stages p (stage_after (stage_at s p) d) }
scene_after g s (Loses p t) = record { words = words_after_try s.words t; stages = put s.stages p Broken }
scene_after g s (Begins p n) = record { words = s.words; stages = put s.stages p (first_stage g p n) }

-- a load gives the word as it stands
abbrev pub IsTrue : List ℕ → Deed → Type 0
IsTrue words (Loaded w v) = v ≡ slice_index words w
IsTrue words d = ⊤

-- this may happen next: a process does what is due, or it comes about unknown to the process, and a
-- load is true
abbrev pub MayBe : Givens → Scene → Moment → Type 0
MayBe g s (Does p d) = IsWorker g p × (due (stage_at s p) ≡ Some (try_of d)) × IsTrue s.words d
MayBe g s (Loses p t) = IsWorker g p × (due (stage_at s p) ≡ Some t)
MayBe g s (Begins p n) = IsWorker g p

-- these may happen, one after the other, from here on
abbrev pub IsHistoryFrom : Givens → Scene → List Moment → Type 0
IsHistoryFrom g s [] = ⊤
IsHistoryFrom g s (m ∷ ms) = MayBe g s m × IsHistoryFrom g (scene_after g s m) ms

-- these may happen from the first on
abbrev pub IsHistory : Givens → List Moment → Type 0
IsHistory g ms = IsHistoryFrom g (first_scene g) ms

-- the job that is handed to a partner, as a list of one job or none
abbrev pub handed_by_try : Try → List ℕ
handed_by_try (Perform s j) = j ∷ []
handed_by_try t = []

-- the job that was handed to a partner: whether it has answered, the call has failed, or the
-- process has died in it
abbrev pub handed_by : Moment → List ℕ
handed_by (Does p d) = handed_by_try (try_of d)
handed_by (Loses p t) = handed_by_try t
handed_by (Begins p n) = []

-- the jobs that were handed to a partner by any process, in their order
abbrev pub handed_jobs : List Moment → List ℕ
handed_jobs [] = []
handed_jobs (m ∷ ms) = handed_by m ++ handed_jobs ms

-- after all of these, in their order
abbrev pub scene_after_all : Givens → Scene → List Moment → Scene
scene_after_all g s [] = s
scene_after_all g s (m ∷ ms) = scene_after_all g (scene_after g s m) ms

-- what comes of these from the first on
abbrev pub scene_of : Givens → List Moment → Scene
scene_of g ms = scene_after_all g (first_scene g) ms
