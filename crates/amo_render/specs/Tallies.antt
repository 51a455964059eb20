-- The lines that close a report: how much was performed, and what nobody has claimed.
use Rattle.std.specs.Prelude.{ℕ, List, ◌++◌, ◌==◌, if◌then◌else◌, length, sum_by, codes}
use Rattle.std.specs.Fmt.{decimal}
use Rattle.amo_kk.specs.declared.event.Event.{Event}
use Rattle.amo_render.specs.Numbers.{spaced}
use Rattle.amo_render.specs.Results.{jobs_in_block}
use Rattle.amo_render.specs.Happened.{unclaimed_jobs}

-- `performed R`
unfoldable pub jobs_words : ℕ → List ℕ
jobs_words dones = codes "performed " ++ decimal dones

-- `performed blocks R jobs K`
unfoldable pub blocks_words : ℕ → ℕ → List ℕ
blocks_words dones jobs = codes "performed blocks " ++ decimal dones ++ codes " jobs " ++ decimal jobs

-- in version 1 the first, else the second, and their line
unfoldable pub tally_words : ℕ → ℕ → ℕ → List ℕ
tally_words version dones jobs = if version == 1 then jobs_words dones else blocks_words dones jobs

-- the line of so many done blocks and jobs
unfoldable pub tally_line : ℕ → ℕ → ℕ → List ℕ
tally_line version dones jobs = tally_words version dones jobs ++ codes "\n"

-- these of these done blocks, and of their jobs
abbrev pub performed_words : ℕ → ℕ → ℕ → List ℕ → List ℕ
performed_words version block jobs dones = tally_words version (length dones) (sum_by (jobs_in_block block jobs) dones)

-- the line of these done blocks, and of their jobs
abbrev pub performed_line : ℕ → ℕ → ℕ → List ℕ → List ℕ
performed_line version block jobs dones = tally_line version (length dones) (sum_by (jobs_in_block block jobs) dones)

-- `unclaimed`, and ` J` for each unclaimed job
unfoldable pub unclaimed_line : ℕ → List Event → List ℕ
unclaimed_line n history = codes "unclaimed" ++ spaced (unclaimed_jobs n history) ++ codes "\n"
