-- Which types of `header_match` that hold a pattern may cross threads.
use denote.Param.Send.{IsSend, IsSync, sendable}
use denote.Param.SendFields.{declared_send, declared_sync, variants_send, variants_sync}
use Rattle.std.proofs.Crossing.{crosses}
use Rattle.header_match.proofs.rule.TextTest.TheSendSync.{the_send as text_test_send, the_sync as text_test_sync}
use Rattle.regex_crossing.proofs.RegexCrossing.{regex_send, regex_sync}
use Rattle.xc_base.proofs.shared.Shared.TheSendSync.{the_send as shared_send, the_sync as shared_sync}
use Rattle.xc_base.proofs.text.Text.TheSendSync.{the_send as text_send, the_sync as text_sync}
use Rattle.header_match.specs.contracts.pattern.Pattern as Pattern
use Rattle.header_match.specs.contracts.pattern.Pattern.TheInside as PatternInside
use Rattle.header_match.specs.contracts.rule.HeaderTest as HeaderTest
use Rattle.header_match.specs.contracts.rule.HeaderRule as HeaderRule

pub pattern_send : IsSend Pattern.the_row
pattern_send =
    let inside : IsSend PatternInside.the_row = declared_send PatternInside.the_type (search (sendable, crosses, text_send, shared_send, regex_send, regex_sync) depth 30 steps 3000000) in
    search (sendable, inside) depth 6 steps 300000

pub pattern_sync : IsSync Pattern.the_row
pattern_sync =
    let inside : IsSync PatternInside.the_row = declared_sync PatternInside.the_type (search (sendable, crosses, text_sync, shared_sync, regex_send, regex_sync) depth 30 steps 3000000) in
    search (sendable, inside) depth 6 steps 300000

pub header_test_send : IsSend HeaderTest.the_row
header_test_send = variants_send HeaderTest.enum (search (sendable, crosses, text_send, pattern_send, text_test_send) depth 30 steps 3000000)

pub header_test_sync : IsSync HeaderTest.the_row
header_test_sync = variants_sync HeaderTest.enum (search (sendable, crosses, text_sync, pattern_sync, text_test_sync) depth 30 steps 3000000)

pub header_rule_send : IsSend HeaderRule.the_row
header_rule_send = declared_send HeaderRule.the_type (search (sendable, crosses, text_send, header_test_send) depth 30 steps 3000000)

pub header_rule_sync : IsSync HeaderRule.the_row
header_rule_sync = declared_sync HeaderRule.the_type (search (sendable, crosses, text_sync, header_test_sync) depth 30 steps 3000000)
