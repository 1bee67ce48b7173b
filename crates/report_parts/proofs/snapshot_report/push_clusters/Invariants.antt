use Rattle.std.proofs.Common.{◌≡◌, ◌++◌, drop, string_bytes}
use Rattle.report_parts.specs.Snapshots.{clusters_from}
use Rattle.report_parts.proofs.snapshot_report.push_clusters.Given as goal

abbrev pub invariant-loop-place : goal.invariant-loop-place
invariant-loop-place l = string_bytes l.out ++ clusters_from l.trees l.place (drop l.place l.clusters) ≡ string_bytes l.fn.out ++ clusters_from l.trees 0 l.clusters
