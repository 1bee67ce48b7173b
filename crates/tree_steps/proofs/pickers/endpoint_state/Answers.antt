use Rattle.std.proofs.Common.{map}
use Rattle.tree_steps.proofs.PickLemmas.{few_of, weights_are, ready_are, few_are}
use Rattle.tree_steps.proofs.pickers.endpoint_state.Goals as goal

pub priority_state-requires : goal.priority_state-requires
priority_state-requires c = rw (c.deref.ensures.value) (few_of (λ l. l.now) c.in_ok-localities.localities.items c.args.priority c.args.endpoints.now c.requires (rw (c.as_slice.ensures) at c.in_ok-localities.ensures))

pub make_picker-requires-clause-weights : goal.make_picker-requires-clause-weights
make_picker-requires-clause-weights c =
    weights_are c.args.reports.now.entries c.args.priority c.args.endpoints.now (map (λ l. l.now) c.in_ok-localities.localities.items) c.in_ok-read.read.parts c.in_ok-read.read.state c.requires
    (rw (c.as_slice.ensures) at c.in_ok-localities.ensures) (rw (c.deref.ensures.value) at c.in_ok-read.ensures.parts) (rw (c.deref.ensures.value) at c.in_ok-read.ensures.state) c.in-Ready.is

pub make_picker-requires-clause-ready : goal.make_picker-requires-clause-ready
make_picker-requires-clause-ready c = ready_are c.args.reports.now.entries (map (λ l. l.now) c.in_ok-localities.localities.items) c.in_ok-read.read.parts (rw (c.deref.ensures.value) at c.in_ok-read.ensures.parts)

pub make_picker-requires-clause-few : goal.make_picker-requires-clause-few
make_picker-requires-clause-few c =
    few_are c.args.reports.now.entries c.args.priority c.args.endpoints.now (map (λ l. l.now) c.in_ok-localities.localities.items) c.in_ok-read.read.parts c.requires
    (rw (c.as_slice.ensures) at c.in_ok-localities.ensures) (rw (c.deref.ensures.value) at c.in_ok-read.ensures.parts)
