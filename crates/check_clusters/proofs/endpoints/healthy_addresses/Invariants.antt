use Rattle.std.proofs.Common.{◌≡◌, drop, filter}
use Rattle.check_clusters.specs.Assignments.{endpoint_address, is_healthy}
use Rattle.check_steps.specs.TableSteps.{each}
use Rattle.check_steps.proofs.EachLemmas.{joined}
use Rattle.check_clusters.proofs.endpoints.healthy_addresses.Given as goal

abbrev pub invariant-loop-endpoint : goal.invariant-loop-endpoint
invariant-loop-endpoint l = joined l.addresses (each endpoint_address (filter is_healthy (drop l.endpoint-index l.endpoints))) ≡ each endpoint_address (filter is_healthy l.endpoints)
