-- `RoundFile::print`: what its loop keeps and its promises, by the lemmas of Ends.
use Rattle.std.proofs.Common.{◌≡◌, ◌++◌, List, ℕ, length, map, sym, ap, ◌∙◌, arith, append-nil}
use Rattle.std.proofs.lemmas.List.{at_drop_all}
use Rattle.amo_run_log.specs.Texts.{ended}
use Rattle.amo_run_files.specs.declared.extent.Extent.{Extent}
use Rattle.amo_run_files.specs.Records.{said_by, texts_of}
use Rattle.amo_run_files.specs.Extents.{extent_said, text_of_extent}
use Rattle.amo_run_files.specs.RoundFiles.{file_said, body_texts, seal_line}
use Rattle.amo_run_files.proofs.Ends.{ended-append}
use Rattle.amo_run_files.proofs.round_file.RoundFile.print.Goals as goal

abbrev texts_from_extents : List Extent → List (List ℕ)
texts_from_extents es = map text_of_extent (map extent_said es)

pub loop-extent-init : goal.loop-extent-init
loop-extent-init c =
    let f = c.args.self.now in
    ap (λ (t : List ℕ). t ++ ended (texts_from_extents f.extents.items)) c.in_ok-text.ensures
    ∙ sym (ended-append (texts_of (said_by f.header)) (texts_from_extents f.extents.items))

pub returns : goal.returns
returns c =
    let f = c.args.self.now in
    let first = c.args.first.now.digits in
    let text = c.loop-extent.text.items in
    let body = ended (body_texts (file_said f)) in
    let is : text ≡ body =
    sym (append-nil text)
    ∙ ap (λ (x : List ℕ). text ++ x) (sym (at_drop_all (λ (es : List Extent). ended (texts_from_extents es)) f.extents.items c.loop-extent.extent-index (omega (arith, c.loop-extent-test.false, ap length c.deref-extent-items.ensures.value))))
    ∙ c.loop-extent.invariant in
    c.in_ok-extend_from_slice.ensures.items
    ∙ ap (λ (x : List ℕ). text ++ x) (c.deref-2.ensures.value ∙ c.in_ok-seal.ensures ∙ ap (seal_line first) (c.deref.ensures.value ∙ is))
    ∙ ap (λ (x : List ℕ). x ++ seal_line first body) is
