-- The word that each reason prints as.
use Rattle.std.specs.Prelude.{ℕ, List, codes}
use Rattle.xc_base.specs.declared.reason.Reason.{Reason}
use Rattle.xc_base.specs.declared.reason.Reason.TheVariants.{Unreadable, NoName, Second, WrongType, NoRoutes, ConfigSource, Domain, NoPath, BadPattern, NoHeaderMatch, Fraction, Weights, ManyClusters, ClusterKind, NoClusters, LbPolicy, Address, LocalityTwice, PriorityGap, BadEscape, BadType, BadAuthority, Absent, NoHost, Depth, NoEndpoints, Failing}

abbrev pub reason_word : Reason → List ℕ
reason_word Unreadable = codes "unreadable"
reason_word NoName = codes "no-name"
reason_word Second = codes "second"
reason_word WrongType = codes "wrong-type"
reason_word NoRoutes = codes "no-routes"
reason_word ConfigSource = codes "config-source"
reason_word Domain = codes "domain"
reason_word NoPath = codes "no-path"
reason_word BadPattern = codes "bad-pattern"
reason_word NoHeaderMatch = codes "no-header-match"
reason_word Fraction = codes "fraction"
reason_word Weights = codes "weights"
reason_word ManyClusters = codes "many-clusters"
reason_word ClusterKind = codes "cluster-kind"
reason_word NoClusters = codes "no-clusters"
reason_word LbPolicy = codes "lb-policy"
reason_word Address = codes "address"
reason_word LocalityTwice = codes "locality-twice"
reason_word PriorityGap = codes "priority-gap"
reason_word BadEscape = codes "bad-escape"
reason_word BadType = codes "bad-type"
reason_word BadAuthority = codes "bad-authority"
reason_word Absent = codes "absent"
reason_word NoHost = codes "no-host"
reason_word Depth = codes "depth"
reason_word NoEndpoints = codes "no-endpoints"
reason_word Failing = codes "failing"
