-- `floors_show_worlds`: its promises, by the lemmas of Worlds and Seats.
use Rattle.amo_words.proofs.Worlds.{lawful}
use Rattle.amo_words.proofs.Seats.{seen_begins, seat_only, known_of, holds_working, holds_keeping}
use Rattle.amo_words.proofs.laws.floors_show_worlds.Goals as goal

pub returns-clause-world : goal.returns-clause-world
returns-clause-world g c = λ k s h. (h.words, lawful k.givens h.log, h.own)

pub returns-clause-list : goal.returns-clause-list
returns-clause-list g c = λ k s h. (h.whole, λ id v at other. seen_begins k.givens k.payloads.value.items h.log v v.role (h.views id v at).0 other)

pub returns-clause-found : goal.returns-clause-found
returns-clause-found g c = λ k s h p o. h.found p o

pub returns-clause-slots : goal.returns-clause-slots
returns-clause-slots g c = λ k s h. h.slots

pub returns-clause-only : goal.returns-clause-only
returns-clause-only g c = λ k s h p id v o at has. seat_only k.givens h.log v.seen h.seat id p v.role o.low (h.views id v at).1 has

pub returns-clause-out : goal.returns-clause-out
returns-clause-out g c = λ k s h id v l at is. holds_working k.givens h.log v.seen h.seat id v.role l is (h.views id v at).1

pub returns-clause-book : goal.returns-clause-book
returns-clause-book g c = λ k s h id v spots at is. holds_keeping k.givens h.log v.seen h.seat id v.role spots is (h.views id v at).1

pub returns-clause-known : goal.returns-clause-known
returns-clause-known g c = λ k s h id v at other. known_of k.givens k.payloads.value.items h.log v v.role (h.views id v at).0 other
