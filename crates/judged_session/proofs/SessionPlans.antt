-- The plan of a session is one by which turns are played.
use Rattle.std.proofs.Common.{◌≤◌, ℕ, ◌+◌, List, length, Option, sym, subst, arith}
use Rattle.call_journal.specs.declared.plan.Listed.{Listed}
use Rattle.xds_bootstrap.specs.declared.bootstrap.Bootstrap.{Bootstrap}
use Rattle.xds_name.specs.declared.target.Target.{Target}
use Rattle.session_lines.specs.Before.{entries}
use Rattle.session_lines.specs.declared.session.Session.{Session}
use Rattle.session_plan.specs.PlanOfSession.{plan_of}
use Rattle.session_plan.specs.ReadablePayloads.{is_response}
use Rattle.book_progress.specs.ProgressKept.{most_entries}
use Rattle.report_replay.specs.planned_calls.PlannedCalls.{plan_entries}
use Rattle.closed_book.specs.channel_calls.ChannelPlans.{HasChannelPlan, IsChannelPlan}
use Rattle.closed_book.proofs.channel_plan.PlanProofs.{plan_is_for_a_channel}
use Rattle.report_replay.specs.session_player.Stages.{IsOfSession}
use Rattle.report_replay.specs.turn_player.TurnPlans.{IsTurnPlan}

within : (n room most : ℕ) → n ≤ room → room ≤ most → n ≤ most
within n room most less more = omega (arith, less, more)

-- more room does as well
wider : (plan : List (List Listed)) (authorities room most : ℕ) → room ≤ most → IsChannelPlan plan authorities room → IsChannelPlan plan authorities most
wider plan authorities room most more is = record {
  entries = within (plan_entries plan) room most is.entries more;
  starts = is.starts;
  events = is.events;
}

-- turns are played by the plan of a session
pub turn_plan_of : (plan : Option (List (List Listed))) (boot : Bootstrap) (target : Target) (session : Session) (lists : List (List Listed)) → IsOfSession plan boot target session lists
    → IsTurnPlan plan (length boot.authorities) lists
turn_plan_of plan boot target session lists of =
    let own : IsChannelPlan (plan_of is_response session) (length session.boot.authorities) most_entries =
    wider (plan_of is_response session) (length session.boot.authorities) (entries session.lines + 1) most_entries of.formed.few (plan_is_for_a_channel session of.formed) in
    let here : IsChannelPlan lists (length boot.authorities) most_entries =
    subst (λ (ls : List (List Listed)). IsChannelPlan ls (length boot.authorities) most_entries) (sym of.lists_are)
    (subst (λ (b : Bootstrap). IsChannelPlan (plan_of is_response session) (length b.authorities) most_entries) (sym of.boot_is) own) in
    record {
      planned = of.plan_is;
      fits = subst (λ (p : Option (List (List Listed))). HasChannelPlan p (length boot.authorities) most_entries) (sym of.plan_is) here;
    }
