-- What comes next for a lane, and the plan of a session on a channel.
use Rattle.std.proofs.Common.{◌≡◌, ◌<◌, ℕ, ◌+◌, List, length, map, Option, Some, sym, ap, ◌∙◌, subst, arith, slice_index_or}
use Rattle.std.specs.List.{range_with_len}
use Rattle.std.proofs.lemmas.List.FromFn.{length-map-range_with_len, get_or-map-range_with_len}
use Rattle.call_journal.specs.declared.plan.Listed.{Listed}
use Rattle.xds_bootstrap.specs.declared.bootstrap.Bootstrap.{Bootstrap}
use Rattle.xds_name.specs.declared.target.Target.{Target}
use Rattle.session_lines.specs.Before.{entries}
use Rattle.session_lines.specs.declared.session.Session.{Session}
use Rattle.session_plan.specs.PlanOfSession.{plan_of}
use Rattle.session_plan.specs.ReadablePayloads.{is_response}
use Rattle.book_progress.specs.PlayedPlans.{IsListed}
use Rattle.channel_crossing.specs.channel_calls.ChannelPlans.{HasChannelPlan, HasListed, HasNext, IsChannelPlan}
use Rattle.closed_book.proofs.channel_plan.PlanProofs.{plan_is_for_a_channel}
use Rattle.closed_book.specs.xds_book.BookEntries.{first_lane}
use Rattle.closed_book.specs.xds_book.BookViews.{LaneView}
use Rattle.closed_book.specs.session_player.Stages.{IsOfSession}

-- what is listed for a lane is what comes next for it
pub next_of : (plan : Option (List (List Listed))) (lists : List (List Listed)) (lane : LaneView) (listed : Listed) → plan ≡ Some lists → IsListed lists lane.actor lane.count listed
    → lane.count.pins ≡ 0 → HasNext plan lane listed.line listed.after listed.event
next_of plan lists lane listed is at none =
    subst (λ (p : Option (List (List Listed))). HasListed p lane 0 listed.line listed.after listed.event) (sym is) (record { listed = at; pins_are = none })

-- the plan of a session is one that a channel plays
pub plan_fits : (plan : Option (List (List Listed))) (boot : Bootstrap) (target : Target) (session : Session) (lists : List (List Listed)) (room : ℕ) → IsOfSession plan boot target session lists
    → room ≡ entries session.lines + 1 → HasChannelPlan plan (length boot.authorities) room
plan_fits plan boot target session lists room of is =
    let own : IsChannelPlan (plan_of is_response session) (length session.boot.authorities) room =
    subst (λ (n : ℕ). IsChannelPlan (plan_of is_response session) (length session.boot.authorities) n) (sym is) (plan_is_for_a_channel session of.formed) in
    let here : IsChannelPlan lists (length boot.authorities) room =
    subst (λ (ls : List (List Listed)). IsChannelPlan ls (length boot.authorities) room) (sym of.lists_are)
    (subst (λ (b : Bootstrap). IsChannelPlan (plan_of is_response session) (length b.authorities) room) (sym of.boot_is) own) in
    subst (λ (p : Option (List (List Listed))). HasChannelPlan p (length boot.authorities) room) (sym of.plan_is) here

-- another list of the same plan
pub of_same : (plan : Option (List (List Listed))) (boot : Bootstrap) (target : Target) (session : Session) (lists other : List (List Listed)) → IsOfSession plan boot target session lists
    → other ≡ lists → IsOfSession plan boot target session other
of_same plan boot target session lists other of is = subst (λ (ls : List (List Listed)). IsOfSession plan boot target session ls) (sym is) of

-- ---- the lanes of a channel

pub lanes_some : (n : ℕ) (lanes given : List LaneView) → lanes ≡ map first_lane (range_with_len 0 (n + 1)) → given ≡ lanes → 0 < length given
lanes_some n lanes given are is =
    let many = length-map-range_with_len first_lane 0 (n + 1) in
    subst (λ (ls : List LaneView). 0 < length ls) (sym (is ∙ are)) (omega (arith, many))

pub lane_first : (n : ℕ) (lanes given : List LaneView) (lane : LaneView) → lanes ≡ map first_lane (range_with_len 0 (n + 1)) → given ≡ lanes → lane ≡ slice_index_or given 0 lane → lane ≡ first_lane 0
lane_first n lanes given lane are is first =
    first ∙ (ap (λ (ls : List LaneView). slice_index_or ls 0 lane) (is ∙ are) ∙ get_or-map-range_with_len first_lane 0 (n + 1) 0 0 lane (omega arith) (omega arith))
