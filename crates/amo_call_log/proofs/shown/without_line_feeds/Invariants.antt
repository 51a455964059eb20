-- The facts that each pass of the loop of `without_line_feeds` keeps.
use Rattle.std.proofs.Common.{◌≡◌, ◌≤◌, take, length}
use Rattle.amo_call_log.specs.Shown.{without_line_feeds}
use Rattle.amo_call_log.proofs.shown.without_line_feeds.Given as goal

-- so many bytes are left, and the bytes after them are line feeds
abbrev pub invariant-ending : goal.invariant-ending
invariant-ending l = record {
  within : l.len ≤ length l.line;
  same : without_line_feeds (take l.len l.line) ≡ without_line_feeds l.line;
}

abbrev pub decreases-ending : goal.decreases-ending
decreases-ending l = l.len
