-- Totals of the generated session of one round, by what its entries are counted to.
use Rattle.std.proofs.Common.{◌≡◌, List, [], ◌∷◌, codes, refl}
use Rattle.std.specs.Fmt.{digits}
use Rattle.config_assembly.specs.Orders.{Name}
use Rattle.totals_writer.specs.Totals.{count_line, counted, endpoint_line, totals_text}

-- the addresses that the two picks of each of its four calls give in turn; calls 0, 2 and 3 go to one cluster
abbrev given : List Name
given =
    codes "10.0.1.1:80" ∷ codes "10.0.1.2:80" ∷ codes "10.0.0.1:80" ∷ codes "10.0.0.2:80"
    ∷ codes "10.0.1.1:80" ∷ codes "10.0.1.2:80" ∷ codes "10.0.1.1:80" ∷ codes "10.0.1.2:80" ∷ []

pub one_round : totals_text (record { rounds = 1; entries = 36; snapshots = 6; starts = 4; picks = 8; endpoints = counted given })
    ≡ codes "load 1\nentries 36\nsnapshots 6\nstarts 4\npicks 8\nendpoint 10.0.0.1:80 1\nendpoint 10.0.0.2:80 1\nendpoint 10.0.1.1:80 3\nendpoint 10.0.1.2:80 3\n"
unfolding totals_text count_line endpoint_line digits
one_round = refl
