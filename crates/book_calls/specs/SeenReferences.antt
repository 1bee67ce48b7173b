-- What calls held and had pinned at the driver's last entry (gRFC A74).
use Rattle.std.specs.Prelude.{◌≡◌, ◌↔◌, ℕ, List, [], ◌∷◌, Option, None, Some}
use Rattle.xc_base.specs.declared.names.CallId.{CallId}
use Rattle.call_journal.specs.declared.entry.What.{What}
use Rattle.xds_history.specs.config_assembly.Orders.{Name}
use Rattle.xds_history.specs.declared.page.Page.{Page}
use Rattle.xds_history.specs.References.{held, pinned}

-- what is so now where the driver acts, else what was so when it did
abbrev pub when_driven : {X : Type 0} → What → X → X → X
when_driven (What.Driver event reply) now before = now
when_driven (What.Caller event reply) now before = before

-- what a call held then
abbrev pub held_seen : List Page → CallId → Option Name
held_seen [] id = None
held_seen (p ∷ ps) id = when_driven p.entry.what (held ps id) (held_seen ps id)

-- what it had pinned then
abbrev pub pinned_seen : List Page → CallId → Option ℕ
pinned_seen [] id = None
pinned_seen (p ∷ ps) id = when_driven p.entry.what (pinned ps id) (pinned_seen ps id)

-- a call holds the name
abbrev pub IsHeldBy : (CallId → Option Name) → Name → Type 0
IsHeldBy hold name = (id : CallId) × (hold id ≡ Some name)

-- calls hold the same names as then
abbrev pub HoldsStay : List Page → Type 0
HoldsStay ps = (name : Name) → IsHeldBy (held ps) name ↔ IsHeldBy (held_seen ps) name

-- no pin was open then
abbrev pub WasUnpinned : List Page → Type 0
WasUnpinned ps = (id : CallId) → pinned_seen ps id ≡ None
