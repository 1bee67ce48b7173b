use Rattle.std.proofs.Common.{length}
use Rattle.listed_patterns.proofs.ListingLemmas.{IsUnderWay}
use Rattle.listed_patterns.proofs.listing.listed_patterns.Given as goal

abbrev pub invariant-loop-line : goal.invariant-loop-line
invariant-loop-line l = IsUnderWay l.fn.lines l.rest l.texts

abbrev pub decreases-loop-line : goal.decreases-loop-line
decreases-loop-line l = length l.rest
