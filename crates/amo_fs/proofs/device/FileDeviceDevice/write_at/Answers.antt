-- `FileDeviceDevice::write_at`: its promises, by the lemmas of Kept.
use Rattle.std.proofs.Common.{◌≡◌, ◌+◌, ◌-◌, ◌≤◌, ◌<◌, List, ℕ, ◌++◌, length, take, drop, max, min, sym, subst, ap, ◌∙◌, arith, rules}
use Rattle.std.proofs.Math.Seq.{take-append_seam}
use Rattle.amo_journal.specs.Device.{Holds, Torn, WritesFront}
use Rattle.amo_fs.proofs.Kept.{all_behind, cut_short, no_front, whole_front}
use Rattle.amo_fs.proofs.device.FileDeviceDevice.write_at.Given.{Over}
use Rattle.amo_fs.proofs.device.FileDeviceDevice.write_at.Goals as goal

pub returns-in_err-extend_from_slice-clause-front : goal.returns-in_err-extend_from_slice-clause-front
returns-in_err-extend_from_slice-clause-front g c =
    let same : c.extend_from_slice.new.self.items ≡ c.args.self.now.bytes.items = search rules in
    subst (λ b. WritesFront c.args.self.now.bytes.items c.args.at c.args.bytes.now b) (sym same) (no_front c.args.self.now.bytes.items c.args.at c.args.bytes.now)

pub returns-in-Err-clause-front : goal.returns-in-Err-clause-front
returns-in-Err-clause-front g c =
    let old = c.args.self.now.bytes.items in
    let grown : c.extend_from_slice.new.self.items ≡ old ++ drop c.min-inside.result c.args.bytes.now =
    c.in_ok-extend_from_slice.ensures.items ∙ ap (λ b. old ++ b) (all_behind c.min-inside.result c.args.bytes.now) in
    let len : c.len-before.result ≡ length old = search rules in
    let same : c.failed.new.self.bytes.items ≡ old =
    ap (λ v. v.items) c.failed.ensures.bytes ∙ c.truncate.ensures.items ∙ ap (λ b. take c.len-before.result b) grown
    ∙ ap (λ n. take n (old ++ drop c.min-inside.result c.args.bytes.now)) len ∙ take-append_seam old (drop c.min-inside.result c.args.bytes.now) in
    subst (λ b. WritesFront old c.args.at c.args.bytes.now b) (sym same) (no_front old c.args.at c.args.bytes.now)

-- what the file has once a front of the bytes was written
held : (g : Over) (c : goal.After-failed-then-count-bytes g) → Holds c.args.self.now.bytes.items c.args.at (take c.in-Ok.count c.args.bytes.now) c.write_within.new.bytes.items
held g c =
    let old = c.args.self.now.bytes.items in
    let n = c.in-Ok.count in
    let inside = c.min-inside.result in
    let grown : c.extend_from_slice.new.self.items ≡ old ++ drop inside c.args.bytes.now =
    c.in_ok-extend_from_slice.ensures.items ∙ ap (λ b. old ++ b) (all_behind inside c.args.bytes.now) in
    let most : c.max.result ≡ max (length old) (c.args.at + n) = search rules in
    let least : c.min.result ≡ min inside n = search rules in
    let kept : c.truncate-2.new.self.items ≡ take (max (length old) (c.args.at + n)) c.extend_from_slice.new.self.items =
    c.truncate-2.ensures.items ∙ ap (λ k. take k c.extend_from_slice.new.self.items) most in
    let within : Holds c.truncate-2.new.self.items c.args.at (take (min inside n) c.args.bytes.now) c.write_within.new.bytes.items =
    subst (λ k. Holds c.truncate-2.new.self.items c.args.at (take k c.args.bytes.now) c.write_within.new.bytes.items) least c.write_within.ensures in
    cut_short old c.args.at n c.args.bytes.now c.extend_from_slice.new.self.items c.truncate-2.new.self.items c.write_within.new.bytes.items inside
    (search rules) (search rules) (search rules) grown kept within

-- the same, as the device has it then
held_then : (g : Over) (c : goal.After-failed-then-count-bytes g) → Holds c.args.self.now.bytes.items c.args.at (take c.in-Ok.count c.args.bytes.now) c.failed-then-count-bytes.new.self.bytes.items
held_then g c = subst (λ b. Holds c.args.self.now.bytes.items c.args.at (take c.in-Ok.count c.args.bytes.now) b.items) (sym c.failed-then-count-bytes.ensures.bytes) (held g c)

pub returns-then-count-bytes-clause-front : goal.returns-then-count-bytes-clause-front
returns-then-count-bytes-clause-front g c = record { count = c.in-Ok.count; some = search rules; holds = held_then g c }

pub returns-then-count-bytes-clause-crash : goal.returns-then-count-bytes-clause-crash
returns-then-count-bytes-clause-crash g c file leaves =
    let old = c.args.self.now.bytes.items in
    let grown : c.extend_from_slice.new.self.items ≡ old ++ drop c.min-inside.result c.args.bytes.now =
    c.in_ok-extend_from_slice.ensures.items ∙ ap (λ b. old ++ b) (all_behind c.min-inside.result c.args.bytes.now) in
    let all : c.deref.result.now ≡ c.extend_from_slice.new.self.items = search rules in
    let len : c.len-before.result ≡ length old = search rules in
    let shown : take c.len-before.result c.deref.result.now ≡ old =
    ap (λ b. take c.len-before.result b) (all ∙ grown) ∙ ap (λ n. take n (old ++ drop c.min-inside.result c.args.bytes.now)) len
    ∙ take-append_seam old (drop c.min-inside.result c.args.bytes.now) in
    let holds : Holds (take c.len-before.result c.deref.result.now) c.args.at (take c.in-Ok.count c.args.bytes.now) c.failed-then-count-bytes.new.self.bytes.items =
    subst (λ b. Holds b c.args.at (take c.in-Ok.count c.args.bytes.now) c.failed-then-count-bytes.new.self.bytes.items) (sym shown) (held_then g c) in
    c.in-Ok.ensures.crash c.failed-then-count-bytes.new.self.bytes.items holds file (subst (λ f. g.F.DiskFile.may_leave f file) c.failed-then-count-bytes.ensures.file leaves)

pub returns-clause-front : goal.returns-clause-front
returns-clause-front g c =
    let holds : Holds c.args.self.now.bytes.items c.args.at (take c.in-Ok.count c.args.bytes.now) c.write_within.new.bytes.items =
    (
    let old = c.args.self.now.bytes.items in
    let n = c.in-Ok.count in
    let inside = c.min-inside.result in
    let grown : c.extend_from_slice.new.self.items ≡ old ++ drop inside c.args.bytes.now =
    c.in_ok-extend_from_slice.ensures.items ∙ ap (λ b. old ++ b) (all_behind inside c.args.bytes.now) in
    let most : c.max.result ≡ max (length old) (c.args.at + n) = search rules in
    let least : c.min.result ≡ min inside n = search rules in
    let kept : c.truncate-2.new.self.items ≡ take (max (length old) (c.args.at + n)) c.extend_from_slice.new.self.items =
    c.truncate-2.ensures.items ∙ ap (λ k. take k c.extend_from_slice.new.self.items) most in
    let within : Holds c.truncate-2.new.self.items c.args.at (take (min inside n) c.args.bytes.now) c.write_within.new.bytes.items =
    subst (λ k. Holds c.truncate-2.new.self.items c.args.at (take k c.args.bytes.now) c.write_within.new.bytes.items) least c.write_within.ensures in
    cut_short old c.args.at n c.args.bytes.now c.extend_from_slice.new.self.items c.truncate-2.new.self.items c.write_within.new.bytes.items inside
    (search rules) (search rules) (search rules) grown kept within
    ) in
    record { count = c.in-Ok.count; some = search rules; holds = holds }
