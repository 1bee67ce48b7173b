use Rattle.proto_wire.proofs.writing.+put_within.Given as goal

abbrev pub decreases-put_within : goal.decreases-put_within
decreases-put_within l = l.n
