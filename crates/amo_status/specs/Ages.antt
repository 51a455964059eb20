-- How long ago something ended, by the time in its record and by a clock, both in seconds since
-- 1970.
use Rattle.std.specs.Prelude.{ℕ, ◌-◌, ◌==◌, nat_lt, List, codes, if◌then◌else◌}
use Rattle.std.specs.Fmt.{decimal}
use Rattle.amo_status.specs.declared.age.Age.{Age}
use Rattle.amo_status.specs.declared.age.Age.TheVariants.{Unknown, Ahead, Seconds}

-- by a clock that shows `now`: the time 0 stands for one that is not known, and a later time than
-- the clock's is ahead of it
abbrev pub age_of : ℕ → ℕ → Age
age_of now ended = if ended == 0 then Unknown else (if nat_lt now ended then Ahead else Seconds (now - ended))

-- as a word
abbrev pub age_word : Age → List ℕ
age_word Unknown = codes "unknown"
age_word Ahead = codes "ahead"
age_word (Seconds seconds) = decimal seconds

-- as JSON: null unless it is a number of seconds
abbrev pub age_json : Age → List ℕ
age_json Unknown = codes "null"
age_json Ahead = codes "null"
age_json (Seconds seconds) = decimal seconds

-- a time as JSON: null if it is not known
abbrev pub time_json : ℕ → List ℕ
time_json time = if time == 0 then codes "null" else decimal time
