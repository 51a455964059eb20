-- The events that are read of a text are those of the log.
use Rattle.std.proofs.Common.{◌≡◌, ℕ, ◌+◌, ◌-◌, Vec, Global, List, [], ◌∷◌, ◌++◌, length, map, take, get_or, Result, Ok, Err, refl, sym, ap, ◌∙◌, subst, append_assoc, arith}
use Rattle.std.specs.Prelude.{◌==◌, count_by}
use Rattle.std.proofs.lemmas.List.{append-nil}
use Rattle.std.specs.List.{join_with_byte}
use Rattle.std.proofs.lemmas.List.Splits.{join_with_byte-slice_split, length-slice_split}
use Rattle.amo_safety_by_journals.specs.Model.{Event, Dies, Begins, Lands, Wants, Intends, Looks, HandsOver, Performs, Ends, Opens}
use Rattle.amo_call_log_judge.specs.Events.{event_of}
use Rattle.amo_call_log_judge.specs.Grammar.{line_for, lines_for, words_for, IsLog, MayAllStand, MayStand}
use Rattle.amo_call_log_judge.specs.Judgement.{IsRead}
use Rattle.amo_call_log_judge.specs.Lines.{parts_of, words_of}
use Rattle.amo_call_log_judge.specs.Reading.{event_in, events_from, events_of_parts, if_ended, log_in, on_line, AreEvents}
use Rattle.amo_call_log_judge.specs.Results.{next}
use Rattle.amo_call_log_judge.specs.declared.event.Event.{Event as EventRead}
use Rattle.amo_call_log_judge.specs.declared.verdict.Refusal.{Refusal}
use Rattle.amo_call_log_judge.specs.declared.verdict.Wrong.{Wrong}
use Rattle.amo_call_log_judge.proofs.Told.{event_read, event_told}
use Rattle.amo_call_log_judge.proofs.Words.{last_item, lines_joined, lines_split, snoc_of, split_joined, take_front, words_lack, AllLack, IsSnoc}

-- ---- a line

-- the words of an event's line
words_back : (e : Event) → MayStand e → words_of (line_for e) ≡ words_for e
words_back e may = by_event e (words_lack 32 e (omega arith) may) may
  where
    by_event : (e : Event) → AllLack 32 (words_for e) → MayStand e → words_of (line_for e) ≡ words_for e
    by_event (Begins p) lack may = split_joined 32 _ _ lack.0 lack.1
    by_event (Dies p) lack may = split_joined 32 _ _ lack.0 lack.1
    by_event (Lands p line) lack may = split_joined 32 _ _ lack.0 lack.1
    by_event (Wants p line) lack may = absurd may
    by_event (Intends p line) lack may = split_joined 32 _ _ lack.0 lack.1
    by_event (Looks p q) lack may = split_joined 32 _ _ lack.0 lack.1
    by_event (HandsOver p) lack may = split_joined 32 _ _ lack.0 lack.1
    by_event (Performs h) lack may = split_joined 32 _ _ lack.0 lack.1
    by_event (Ends i) lack may = split_joined 32 _ _ lack.0 lack.1
    by_event (Opens a) lack may = split_joined 32 _ _ lack.0 lack.1

-- a line of which an event is read is its line
line_back : (line : List ℕ) (x : EventRead) → event_in (words_of line) ≡ Ok x → (line ≡ line_for (event_of x)) × MayStand (event_of x)
line_back line x is =
    let told = event_told (words_of line) x is in
    (sym (join_with_byte-slice_split 32 line) ∙ ap (join_with_byte 32) told.words, told.may)

-- ---- lines

-- what is read of the lines of events
pub record AreRead (es : List EventRead) (texts : List (List ℕ)) (fs : List EventRead) : Type 0 where
  pub more : List EventRead
  pub all : fs ≡ es ++ more
  pub lines : texts ≡ map line_for (map event_of more)
  pub may : MayAllStand (map event_of more)

next_line : {A : Type 0} (n : ℕ) (r : Result EventRead Wrong) (f : EventRead → Result A Refusal) (y : A) → next (on_line n r) f ≡ Ok y → (x : EventRead) × (r ≡ Ok x) × (f x ≡ Ok y)
next_line n (Ok x) f y is = (x, refl, is)
next_line n (Err e) f y is = absurd (cc)

same_events : (es fs : List EventRead) → ◌≡◌ {A = Result (List EventRead) Refusal} (Ok es) (Ok fs) → es ≡ fs
same_events es fs e = cc

events_back : (es : List EventRead) (lines : List (List ℕ)) (fs : List EventRead) → events_from es lines ≡ Ok fs → AreRead es lines fs
events_back es [] fs is = record { more = []; all = sym (same_events es fs is) ∙ sym (append-nil es); lines = refl; may = tt }
events_back es (line ∷ lines) fs is =
    let led = next_line (length es + 1) (event_in (words_of line)) (λ e. events_from (es ++ e ∷ []) lines) fs is in
    let here = line_back line led.0 led.1 in
    let later = events_back (es ++ led.0 ∷ []) lines fs led.2 in
    record {
      more = led.0 ∷ later.more;
      all = later.all ∙ append_assoc es (led.0 ∷ []) later.more;
      lines = ap (λ (l : List ℕ). l ∷ lines) here.0 ∙ ap (λ (ls : List (List ℕ)). line_for (event_of led.0) ∷ ls) later.lines;
      may = (here.1, later.may);
    }

pub record ReadsBack (es : List EventRead) (fs : List Event) : Type 0 where
  pub more : List EventRead
  pub read : events_from es (map line_for fs) ≡ Ok (es ++ more)
  pub events : map event_of more ≡ fs

events_read : (es : List EventRead) (fs : List Event) → MayAllStand fs → ReadsBack es fs
events_read es [] all = record { more = []; read = ap Ok (sym (append-nil es)); events = refl }
events_read es (f ∷ fs) all =
    let here = event_read f all.0 in
    let later = events_read (es ++ here.0 ∷ []) fs all.1 in
    record {
      more = here.0 ∷ later.more;
      read =
          ap (λ (ws : List (List ℕ)). next (on_line (length es + 1) (event_in ws)) (λ e. events_from (es ++ e ∷ []) (map line_for fs))) (words_back f all.0)
          ∙ (ap (λ (r : Result EventRead Wrong). next (on_line (length es + 1) r) (λ e. events_from (es ++ e ∷ []) (map line_for fs))) here.1
          ∙ (later.read ∙ ap Ok (append_assoc es (here.0 ∷ []) later.more)));
      events = ap (λ (e : Event). e ∷ map event_of later.more) here.2 ∙ ap (λ (all : List Event). f ∷ all) later.events;
    }

-- ---- texts

next_both : {A B : Type 0} (r : Result A Refusal) (f : A → Result B Refusal) (y : B) → next r f ≡ Ok y → (x : A) × (r ≡ Ok x) × (f x ≡ Ok y)
next_both (Ok x) f y is = (x, refl, is)
next_both (Err e) f y is = absurd (cc)

ended : (behind : List ℕ) (es fs : List EventRead) → if_ended behind es ≡ Ok fs → (behind ≡ []) × (es ≡ fs)
ended [] es fs is = (refl, same_events es fs is)
ended (b ∷ behind) es fs is = absurd (cc)

snoc_by : (xs : List (List ℕ)) (n : ℕ) → length xs ≡ n + 1 → IsSnoc xs
snoc_by [] n many = absurd (omega arith)
snoc_by (x ∷ xs) n many = snoc_of x xs

log_of_parts : (text : List ℕ) (parts : List (List ℕ)) (es : List EventRead) → IsSnoc parts → join_with_byte 10 parts ≡ text → events_of_parts parts ≡ Ok es → IsLog text (map event_of es)
log_of_parts text parts es snoc joined is =
    let all : events_of_parts (snoc.front ++ snoc.last ∷ []) ≡ Ok es = ap events_of_parts (sym snoc.both) ∙ is in
    let led = next_both (events_from [] (take (length (snoc.front ++ snoc.last ∷ []) - 1) (snoc.front ++ snoc.last ∷ []))) (λ fs. if_ended (get_or (snoc.front ++ snoc.last ∷ []) (length (snoc.front ++ snoc.last ∷ []) - 1) []) fs) es all in
    let back = events_back [] snoc.front led.0 (ap (events_from []) (sym (take_front snoc.front snoc.last)) ∙ led.1) in
    let end = ended snoc.last led.0 es (ap (λ (behind : List ℕ). if_ended behind led.0) (sym (last_item snoc.front snoc.last [])) ∙ led.2) in
    let same : back.more ≡ es = sym back.all ∙ end.1 in
    record {
      lines =
          sym joined
          ∙ (ap (join_with_byte 10) (snoc.both ∙ (ap (λ (l : List ℕ). snoc.front ++ l ∷ []) end.0 ∙ ap (λ (ls : List (List ℕ)). ls ++ [] ∷ []) back.lines))
          ∙ (lines_joined (map event_of back.more) ∙ ap (λ (fs : List EventRead). lines_for (map event_of fs)) same));
      all = subst (λ (fs : List EventRead). MayAllStand (map event_of fs)) same back.may;
    }

pub log_back : (text : List ℕ) (es : List EventRead) → log_in text ≡ Ok es → IsLog text (map event_of es)
log_back text es is = log_of_parts text (parts_of text) es (snoc_by (parts_of text) (count_by (λ b. b == 10) text) (length-slice_split (λ b. b == 10) text)) (join_with_byte-slice_split 10 text) is

pub log_read : (text : List ℕ) (fs : List Event) → IsLog text fs → (es : List EventRead) × (log_in text ≡ Ok es) × (map event_of es ≡ fs)
log_read text fs log =
    let lines = map line_for fs in
    let back = events_read [] fs log.all in (
      back.more,
      ap (λ (t : List ℕ). events_of_parts (parts_of t)) log.lines
          ∙ (ap events_of_parts (lines_split fs log.all)
          ∙ (ap (λ (ls : List (List ℕ)). next (events_from [] ls) (λ es. if_ended (get_or (map line_for fs ++ [] ∷ []) (length (map line_for fs ++ [] ∷ []) - 1) []) es)) (take_front (map line_for fs) [])
          ∙ (ap (λ (r : Result (List EventRead) Refusal). next r (λ es. if_ended (get_or (map line_for fs ++ [] ∷ []) (length (map line_for fs ++ [] ∷ []) - 1) []) es)) back.read
          ∙ ap (λ (behind : List ℕ). if_ended behind back.more) (last_item (map line_for fs) [] [])))),
      back.events,
    )

-- what was read is so
pub read_is : (text : List ℕ) (parts : List (List ℕ)) (read : Result (Vec EventRead Global) Refusal) → parts ≡ parts_of text → AreEvents (events_of_parts parts) read → IsRead text read
read_is text parts (Ok events) e is = log_back text events.items (ap events_of_parts (sym e) ∙ is)
read_is text parts (Err refusal) e is = record { no_log = λ es log. none es log; first = first }
  where
    first : log_in text ≡ Err refusal
    first = ap events_of_parts (sym e) ∙ is

    differ : (es : List EventRead) → ◌≡◌ {A = Result (List EventRead) Refusal} (Ok es) (Err refusal) → ⊥
    differ es same = cc

    none : (es : List Event) → IsLog text es → ⊥
    none es log = let read = log_read text es log in differ read.0 (sym read.1 ∙ first)

-- a text is the log of one list of events
pub same_log : (text : List ℕ) (es fs : List Event) → IsLog text es → IsLog text fs → es ≡ fs
same_log text es fs one other =
    let a = log_read text es one in
    let b = log_read text fs other in
    sym a.2 ∙ (ap (map event_of) (same_events a.0 b.0 (sym a.1 ∙ b.1)) ∙ b.2)
