-- The reply for a worker, by its standing.
use Rattle.std.specs.Prelude.{ℕ, length, Some, Result, Ok, Err, if◌then◌else◌}
use Rattle.amo_kk.specs.Record.{can_leave}
use Rattle.amo_kk.specs.Words.{next_word}
use Rattle.amo_process.specs.Heard.{to_perform, in_doubt}
use Rattle.amo_process.specs.Stepped.{access_of}
use Rattle.amo_process.specs.declared.access.Access.{Access}
use Rattle.amo_process.specs.declared.access.Access.TheVariants.{Load, Store, Nothing}
use Rattle.amo_process.specs.declared.standing.Standing.{Standing}
use Rattle.amo_process.specs.declared.standing.Standing.TheVariants.{Beginning, Going}
use Rattle.amo_c.specs.Codes.{access_code, phase_code, kind_of, phase_of}
use Rattle.amo_c.specs.declared.codes.PhaseCode.{PhaseCode}
use Rattle.amo_c.specs.declared.codes.PhaseCode.TheVariants.{Beginning as IsBeginning, Left as HasLeft}
use Rattle.amo_c.specs.declared.codes.FaultCode.{FaultCode}
use Rattle.amo_c.specs.declared.codes.FaultCode.TheVariants.{MayNotLeave}
use Rattle.amo_c.specs.declared.worker.Worker.{Worker}
use Rattle.amo_c.specs.declared.told.AmoNext.{AmoNext}

-- the word of an access; 0 if there is no access
abbrev pub word_of : Access → ℕ
word_of (Load word) = word
word_of (Store word value) = word
word_of Nothing = 0

-- the value that is stored; 0 if the access isn't a store
abbrev pub value_of : Access → ℕ
value_of (Load word) = 0
value_of (Store word value) = value
value_of Nothing = 0

-- the reply for a worker in this phase that makes this access, with no job in its hand and none
-- claimed
abbrev pub told_of : Access → PhaseCode → AmoNext
told_of a phase =
    record {
      access = access_code (kind_of a);
      phase = phase_code phase;
      word = word_of a;
      value = value_of a;
      perform = 0;
      doubt = 0;
      claims = 0;
      dones = 0;
    }

-- the reply for a worker in this standing: its next access, the job to be performed, the job in
-- doubt, and how many jobs it has claimed and recorded as done
abbrev pub next_of : Worker → Standing → AmoNext
next_of w (Beginning word) = told_of (Load word) IsBeginning
next_of w (Going l fresh) =
    record (told_of (access_of w.givens w.number (Some (Going l fresh))) (phase_of l.state.phase)) {
      perform = to_perform (Going l fresh);
      doubt = in_doubt (Going l fresh);
      claims = length l.state.claimed;
      dones = length l.state.dones;
    }

-- the store by which a worker leaves that stands so, if it may
abbrev pub leave_by : Worker → Standing → Result AmoNext FaultCode
leave_by w (Beginning word) = Err MayNotLeave
leave_by w (Going l fresh) =
    if can_leave l.state.phase
    then Ok (record (told_of (Store (next_word w.number) 0) HasLeft) { claims = length l.state.claimed; dones = length l.state.dones })
    else Err MayNotLeave
