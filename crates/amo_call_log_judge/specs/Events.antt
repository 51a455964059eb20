-- The events of a log, as the model of clearance has them.
use Rattle.amo_safety_by_journals.specs.Model.{Attempt, Handing, Event, Dies, Begins, Lands, Intends, Looks, HandsOver, Performs, Ends, Opens}
use Rattle.amo_call_log_judge.specs.declared.event.Attempt.{Attempt as AttemptRead}
use Rattle.amo_call_log_judge.specs.declared.event.Handing.{Handing as HandingRead}
use Rattle.amo_call_log_judge.specs.declared.event.Event.{Event as EventRead}
use Rattle.amo_call_log_judge.specs.declared.event.Event.TheVariants.{Begins as BeginsRead, Dies as DiesRead, Lands as LandsRead, Intends as IntendsRead, Looks as LooksRead, HandsOver as HandsOverRead, Performs as PerformsRead, Ends as EndsRead, Opens as OpensRead}

-- the attempt that the code holds, as the model has it
abbrev pub attempt_of : AttemptRead → Attempt
attempt_of a = record { worker = a.worker; serial = a.serial }

-- the handing that the code holds, as the model has it
abbrev pub handing_of : HandingRead → Handing
handing_of h = record { worker = h.worker; serial = h.serial; line = h.line }

-- the event that the code holds, as the model has it
abbrev pub event_of : EventRead → Event
event_of (BeginsRead p) = Begins p
event_of (DiesRead p) = Dies p
event_of (LandsRead p line) = Lands p line
event_of (IntendsRead p line) = Intends p line
event_of (LooksRead p q) = Looks p q
event_of (HandsOverRead p) = HandsOver p
event_of (PerformsRead h) = Performs (handing_of h)
event_of (EndsRead i) = Ends i
event_of (OpensRead a) = Opens (attempt_of a)
