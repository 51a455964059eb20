-- How many lines stand how, as it is written at the head of a status: in words, or as the members
-- of a JSON object.
use Rattle.std.specs.Prelude.{ℕ, List, ◌++◌, codes}
use Rattle.std.specs.Fmt.{decimal}
use Rattle.amo_status.specs.declared.count.Counts.{Counts}
use Rattle.amo_status.specs.declared.heading.Style.{Style}
use Rattle.amo_status.specs.declared.heading.Style.TheVariants.{Words, Members}

-- how many lines there are, and how many are done, failed and in doubt
abbrev pub counts_front : Style → Counts → List ℕ
counts_front Words c = codes "lines " ++ (decimal c.lines ++ (codes " done " ++ (decimal c.done ++ (codes " failed " ++ (decimal c.failed ++ (codes " doubt " ++ decimal c.doubt))))))
counts_front Members c = codes "\"lines\":" ++ (decimal c.lines ++ (codes ",\"done\":" ++ (decimal c.done ++ (codes ",\"failed\":" ++ (decimal c.failed ++ (codes ",\"doubt\":" ++ decimal c.doubt))))))

-- how many are running, untouched and open
abbrev pub counts_back : Style → Counts → List ℕ
counts_back Words c = codes " running " ++ (decimal c.running ++ (codes " untouched " ++ (decimal c.untouched ++ (codes " open " ++ decimal c.open))))
counts_back Members c = codes ",\"running\":" ++ (decimal c.running ++ (codes ",\"untouched\":" ++ (decimal c.untouched ++ (codes ",\"open\":" ++ decimal c.open))))

-- all of them
abbrev pub counts_text : Style → Counts → List ℕ
counts_text style c = counts_front style c ++ counts_back style c
