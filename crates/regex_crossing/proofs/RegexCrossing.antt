-- Which types of the regular expressions may cross threads.
use denote.RattleType.{RattleType}
use denote.Param.Send.{IsSend, IsSync, sendable}
use denote.Param.SendFields.{declared_send, declared_sync, variants_send, variants_sync, as_row_send, as_row_sync}
use Rattle.std.proofs.Crossing.{crosses}
use denote.Builtin.{u8}
use denote.Hole.{as_row}
use denote.Struct.Field.{row_field, u32-field}
use denote.Hole.FixSend.{fix_send, fix_sync, Sends, Syncs}
use Rattle.std.proofs.Crossing.{Box-send, Box-sync, Vec-send, Vec-sync}
use Rattle.std.specs.contracts.alloc.Global as Heap
use Rattle.std.specs.contracts.impls.GlobalAllocator.TheImpl.{ghosts}
use Rattle.std.specs.contracts.boxed.Box as Box
use Rattle.std.specs.contracts.vec.Vec as Vec
use Rattle.regex_hir.specs.contracts.hir.Hir.TheKnot as Knot
use Rattle.regex_hir.specs.contracts.look.Look as Look
use Rattle.regex_class.specs.contracts.Class as Class
use Rattle.regex_hir.specs.contracts.hir.Hir as Hir
use Rattle.regex_nfa.specs.contracts.state.Transition as Transition
use Rattle.regex_nfa.specs.contracts.state.State as State
use Rattle.regex_nfa.specs.contracts.nfa.Nfa as Nfa
use Rattle.regex_dfa.specs.contracts.kinds.Needs as Needs
use Rattle.regex_dfa.specs.contracts.preds.Preds as Preds
use Rattle.regex_dfa.specs.contracts.dfa.Dfa as Dfa
use Rattle.regex_literal.specs.contracts.byte_set.ByteSet as ByteSet
use Rattle.regex_literal.specs.contracts.needles.Needles as Needles
use Rattle.regex_literal.specs.contracts.dictionary.Dictionary as Dictionary
use Rattle.regex_literal.specs.contracts.memmem.Finder as Finder
use Rattle.regex_literal.specs.contracts.singles.Singles as Singles
use Rattle.regex_literal.specs.contracts.tables.Masks as Masks
use Rattle.regex_literal.specs.contracts.tables.Folds as Folds
use Rattle.regex_literal.specs.contracts.sieve.Sieve as Sieve
use Rattle.regex_literal.specs.contracts.plan.Outlook as Outlook
use Rattle.regex_literal.specs.contracts.sifter.Sifter as Sifter
use Rattle.regex_literal.specs.contracts.strider.Strider as Strider
use Rattle.regex_literal.specs.contracts.search.Search as Search
use Rattle.regex_literal.specs.contracts.prefilter.Prefilter as Prefilter
use Rattle.regex_literal.specs.contracts.prefilter.Prefilter.TheInside as PrefilterInside
use Rattle.regex_literal.specs.contracts.runs.Runs as Runs
use Rattle.regex_literal.specs.contracts.flight.Flight as Flight
use Rattle.regex_literal.specs.contracts.gate.Gate as Gate
use Rattle.regex_literal.specs.contracts.ladder.Ladder as Ladder
use Rattle.regex_literal.specs.contracts.caseless.Share as Share
use Rattle.regex_literal.specs.contracts.caseless.Caseless as Caseless
use Rattle.regex_literal.specs.contracts.caseless.Caseless.TheInside as CaselessInside
use Rattle.regex_extract.specs.contracts.frames.Frame as Frame
use Rattle.regex_meta.specs.contracts.plan.Role as Role
use Rattle.regex_meta.specs.contracts.plan.Plan as Plan
use Rattle.regex_meta.specs.contracts.plan.Plans as Plans
use Rattle.regex_meta.specs.contracts.signs.Signs as Signs
use Rattle.regex_meta.specs.contracts.program.Program as Program
use Rattle.regex_syntax.specs.contracts.Config as Options
use Rattle.regex.specs.contracts.pattern.Pattern as Source
use Rattle.regex.specs.contracts.string.regex.Regex as Regex

pub look_send : IsSend Look.the_row
look_send = search (sendable, crosses) depth 70 steps 3000000

pub look_sync : IsSync Look.the_row
look_sync = search (sendable, crosses) depth 70 steps 3000000

pub class_send : IsSend Class.the_row
class_send = declared_send Class.the_type (search (sendable, crosses) depth 30 steps 3000000)

pub class_sync : IsSync Class.the_row
class_sync = declared_sync Class.the_type (search (sendable, crosses) depth 30 steps 3000000)

again_send : (R : RattleType) → IsSend R → IsSend (as_row (row_field R))
again_send R s = as_row_send (row_field R) s

hir_layer_send : Sends Hir.the_ring Hir.the_member
hir_layer_send = record {
  send = λ h s. let m : RattleType = h Hir.the_member in let own : IsSend m = s Hir.the_member in variants_send (Knot.type-Hir m m m m) (
    tt,
    (
      (again_send (as_row (Vec.the_field u8 Heap.the_row ghosts)) (as_row_send (Vec.the_field u8 Heap.the_row ghosts) (Vec-send u8 (search sendable depth 6))), tt),
      (
        (again_send (Class.the_row) (class_send), tt),
        (
          (again_send (Class.the_row) (class_send), tt),
          (
            (again_send (Look.the_row) (look_send), tt),
            ((again_send (as_row u32-field) (search sendable depth 6), (search (sendable, crosses) depth 20 steps 1000000, (search (sendable, crosses) depth 20 steps 1000000, (again_send (Box.the_row m Heap.the_row ghosts) (Box-send m own), tt)))), ((again_send (as_row u32-field) (search sendable depth 6), (again_send (Box.the_row m Heap.the_row ghosts) (Box-send m own), tt)), ((again_send (Vec.the_row m Heap.the_row ghosts) (Vec-send m own), tt), ((again_send (Vec.the_row m Heap.the_row ghosts) (Vec-send m own), tt), tt)))),
          ),
        ),
      ),
    ),
  );
}

hir_hole_send : IsSend Hir.the_hole
hir_hole_send = fix_send Hir.the_ring (Hir.by_members (λ i. Sends Hir.the_ring i) hir_layer_send) Hir.the_member

pub hir_send : IsSend Hir.the_row
hir_send = variants_send Hir.enum (search (sendable, crosses, look_send, class_send, hir_hole_send) depth 30 steps 3000000)

again_sync : (R : RattleType) → IsSync R → IsSync (as_row (row_field R))
again_sync R s = as_row_sync (row_field R) s

hir_layer_sync : Syncs Hir.the_ring Hir.the_member
hir_layer_sync = record {
  sync = λ h s. let m : RattleType = h Hir.the_member in let own : IsSync m = s Hir.the_member in variants_sync (Knot.type-Hir m m m m) (
    tt,
    (
      (again_sync (as_row (Vec.the_field u8 Heap.the_row ghosts)) (as_row_sync (Vec.the_field u8 Heap.the_row ghosts) (Vec-sync u8 (search sendable depth 6))), tt),
      (
        (again_sync (Class.the_row) (class_sync), tt),
        (
          (again_sync (Class.the_row) (class_sync), tt),
          (
            (again_sync (Look.the_row) (look_sync), tt),
            ((again_sync (as_row u32-field) (search sendable depth 6), (search (sendable, crosses) depth 20 steps 1000000, (search (sendable, crosses) depth 20 steps 1000000, (again_sync (Box.the_row m Heap.the_row ghosts) (Box-sync m own), tt)))), ((again_sync (as_row u32-field) (search sendable depth 6), (again_sync (Box.the_row m Heap.the_row ghosts) (Box-sync m own), tt)), ((again_sync (Vec.the_row m Heap.the_row ghosts) (Vec-sync m own), tt), ((again_sync (Vec.the_row m Heap.the_row ghosts) (Vec-sync m own), tt), tt)))),
          ),
        ),
      ),
    ),
  );
}

hir_hole_sync : IsSync Hir.the_hole
hir_hole_sync = fix_sync Hir.the_ring (Hir.by_members (λ i. Syncs Hir.the_ring i) hir_layer_sync) Hir.the_member

pub hir_sync : IsSync Hir.the_row
hir_sync = variants_sync Hir.enum (search (sendable, crosses, look_sync, class_sync, hir_hole_sync) depth 30 steps 3000000)

pub transition_send : IsSend Transition.the_row
transition_send = declared_send Transition.the_type (search (sendable, crosses) depth 30 steps 3000000)

pub transition_sync : IsSync Transition.the_row
transition_sync = declared_sync Transition.the_type (search (sendable, crosses) depth 30 steps 3000000)

pub state_send : IsSend State.the_row
state_send = variants_send State.enum (search (sendable, crosses, look_send, look_sync, transition_send, transition_sync) depth 30 steps 3000000)

pub state_sync : IsSync State.the_row
state_sync = variants_sync State.enum (search (sendable, crosses, look_send, look_sync, transition_send, transition_sync) depth 30 steps 3000000)

pub nfa_send : IsSend Nfa.the_row
nfa_send = declared_send Nfa.the_type (search (sendable, crosses, state_send, state_sync, transition_send, transition_sync) depth 30 steps 3000000)

pub nfa_sync : IsSync Nfa.the_row
nfa_sync = declared_sync Nfa.the_type (search (sendable, crosses, state_send, state_sync, transition_send, transition_sync) depth 30 steps 3000000)

pub needs_send : IsSend Needs.the_row
needs_send = declared_send Needs.the_type (search (sendable, crosses) depth 30 steps 3000000)

pub needs_sync : IsSync Needs.the_row
needs_sync = declared_sync Needs.the_type (search (sendable, crosses) depth 30 steps 3000000)

pub preds_send : IsSend Preds.the_row
preds_send = declared_send Preds.the_type (search (sendable, crosses, transition_send, transition_sync) depth 30 steps 3000000)

pub preds_sync : IsSync Preds.the_row
preds_sync = declared_sync Preds.the_type (search (sendable, crosses, transition_send, transition_sync) depth 30 steps 3000000)

pub dfa_send : IsSend Dfa.the_row
dfa_send = declared_send Dfa.the_type (search (sendable, crosses, nfa_send, nfa_sync, needs_send, needs_sync, preds_send, preds_sync) depth 30 steps 3000000)

pub dfa_sync : IsSync Dfa.the_row
dfa_sync = declared_sync Dfa.the_type (search (sendable, crosses, nfa_send, nfa_sync, needs_send, needs_sync, preds_send, preds_sync) depth 30 steps 3000000)

pub byte_set_send : IsSend ByteSet.the_row
byte_set_send = search (sendable, crosses) depth 30 steps 3000000

pub byte_set_sync : IsSync ByteSet.the_row
byte_set_sync = search (sendable, crosses) depth 30 steps 3000000

pub needles_send : IsSend Needles.the_row
needles_send = search (sendable, crosses) depth 30 steps 3000000

pub needles_sync : IsSync Needles.the_row
needles_sync = search (sendable, crosses) depth 30 steps 3000000

pub dictionary_send : IsSend Dictionary.the_row
dictionary_send = search (sendable, crosses, needles_send, needles_sync) depth 30 steps 3000000

pub dictionary_sync : IsSync Dictionary.the_row
dictionary_sync = search (sendable, crosses, needles_send, needles_sync) depth 30 steps 3000000

pub finder_send : IsSend Finder.the_row
finder_send = search (sendable, crosses) depth 30 steps 3000000

pub finder_sync : IsSync Finder.the_row
finder_sync = search (sendable, crosses) depth 30 steps 3000000

pub singles_send : IsSend Singles.the_row
singles_send = declared_send Singles.the_type (search (sendable, crosses, needles_send, needles_sync, byte_set_send, byte_set_sync) depth 30 steps 3000000)

pub singles_sync : IsSync Singles.the_row
singles_sync = declared_sync Singles.the_type (search (sendable, crosses, needles_send, needles_sync, byte_set_send, byte_set_sync) depth 30 steps 3000000)

pub masks_send : IsSend Masks.the_row
masks_send = declared_send Masks.the_type (search (sendable, crosses) depth 30 steps 3000000)

pub masks_sync : IsSync Masks.the_row
masks_sync = declared_sync Masks.the_type (search (sendable, crosses) depth 30 steps 3000000)

pub folds_send : IsSend Folds.the_row
folds_send = declared_send Folds.the_type (search (sendable, crosses) depth 30 steps 3000000)

pub folds_sync : IsSync Folds.the_row
folds_sync = declared_sync Folds.the_type (search (sendable, crosses) depth 30 steps 3000000)

pub sieve_send : IsSend Sieve.the_row
sieve_send = declared_send Sieve.the_type (search (sendable, crosses, masks_send, masks_sync, folds_send, folds_sync) depth 30 steps 3000000)

pub sieve_sync : IsSync Sieve.the_row
sieve_sync = declared_sync Sieve.the_type (search (sendable, crosses, masks_send, masks_sync, folds_send, folds_sync) depth 30 steps 3000000)

pub outlook_send : IsSend Outlook.the_row
outlook_send = declared_send Outlook.the_type (search (sendable, crosses) depth 30 steps 3000000)

pub outlook_sync : IsSync Outlook.the_row
outlook_sync = declared_sync Outlook.the_type (search (sendable, crosses) depth 30 steps 3000000)

pub sifter_send : IsSend Sifter.the_row
sifter_send = declared_send Sifter.the_type (search (sendable, crosses, dictionary_send, dictionary_sync, outlook_send, outlook_sync, sieve_send, sieve_sync) depth 30 steps 3000000)

pub sifter_sync : IsSync Sifter.the_row
sifter_sync = declared_sync Sifter.the_type (search (sendable, crosses, dictionary_send, dictionary_sync, outlook_send, outlook_sync, sieve_send, sieve_sync) depth 30 steps 3000000)

pub strider_send : IsSend Strider.the_row
strider_send = declared_send Strider.the_type (search (sendable, crosses, dictionary_send, dictionary_sync) depth 30 steps 3000000)

pub strider_sync : IsSync Strider.the_row
strider_sync = declared_sync Strider.the_type (search (sendable, crosses, dictionary_send, dictionary_sync) depth 30 steps 3000000)

pub search_send : IsSend Search.the_row
search_send = variants_send Search.enum (search (sendable, crosses, finder_send, finder_sync, singles_send, singles_sync, sifter_send, sifter_sync, strider_send, strider_sync) depth 30 steps 3000000)

pub search_sync : IsSync Search.the_row
search_sync = variants_sync Search.enum (search (sendable, crosses, finder_send, finder_sync, singles_send, singles_sync, sifter_send, sifter_sync, strider_send, strider_sync) depth 30 steps 3000000)

pub prefilter_send : IsSend Prefilter.the_row
prefilter_send = let inside : IsSend PrefilterInside.the_row = declared_send PrefilterInside.the_type (search (sendable, crosses, search_send, search_sync) depth 30 steps 3000000) in search (sendable, inside) depth 6 steps 300000

pub prefilter_sync : IsSync Prefilter.the_row
prefilter_sync = let inside : IsSync PrefilterInside.the_row = declared_sync PrefilterInside.the_type (search (sendable, crosses, search_send, search_sync) depth 30 steps 3000000) in search (sendable, inside) depth 6 steps 300000

pub runs_send : IsSend Runs.the_row
runs_send = declared_send Runs.the_type (search (sendable, crosses) depth 30 steps 3000000)

pub runs_sync : IsSync Runs.the_row
runs_sync = declared_sync Runs.the_type (search (sendable, crosses) depth 30 steps 3000000)

pub flight_send : IsSend Flight.the_row
flight_send = declared_send Flight.the_type (search (sendable, crosses, masks_send, masks_sync, runs_send, runs_sync) depth 30 steps 3000000)

pub flight_sync : IsSync Flight.the_row
flight_sync = declared_sync Flight.the_type (search (sendable, crosses, masks_send, masks_sync, runs_send, runs_sync) depth 30 steps 3000000)

pub gate_send : IsSend Gate.the_row
gate_send = declared_send Gate.the_type (search (sendable, crosses, byte_set_send, byte_set_sync) depth 30 steps 3000000)

pub gate_sync : IsSync Gate.the_row
gate_sync = declared_sync Gate.the_type (search (sendable, crosses, byte_set_send, byte_set_sync) depth 30 steps 3000000)

pub ladder_send : IsSend Ladder.the_row
ladder_send = declared_send Ladder.the_type (search (sendable, crosses, flight_send, flight_sync, gate_send, gate_sync) depth 30 steps 3000000)

pub ladder_sync : IsSync Ladder.the_row
ladder_sync = declared_sync Ladder.the_type (search (sendable, crosses, flight_send, flight_sync, gate_send, gate_sync) depth 30 steps 3000000)

pub share_send : IsSend Share.the_row
share_send = declared_send Share.the_type (search (sendable, crosses, prefilter_send, prefilter_sync) depth 30 steps 3000000)

pub share_sync : IsSync Share.the_row
share_sync = declared_sync Share.the_type (search (sendable, crosses, prefilter_send, prefilter_sync) depth 30 steps 3000000)

pub caseless_send : IsSend Caseless.the_row
caseless_send = let inside : IsSend CaselessInside.the_row = declared_send CaselessInside.the_type (search (sendable, crosses, share_send, share_sync) depth 30 steps 3000000) in search (sendable, inside) depth 6 steps 300000

pub caseless_sync : IsSync Caseless.the_row
caseless_sync = let inside : IsSync CaselessInside.the_row = declared_sync CaselessInside.the_type (search (sendable, crosses, share_send, share_sync) depth 30 steps 3000000) in search (sendable, inside) depth 6 steps 300000

pub frame_send : IsSend Frame.the_row
frame_send = declared_send Frame.the_type (search (sendable, crosses) depth 30 steps 3000000)

pub frame_sync : IsSync Frame.the_row
frame_sync = declared_sync Frame.the_type (search (sendable, crosses) depth 30 steps 3000000)

pub role_send : IsSend Role.the_row
role_send = variants_send Role.enum (search (sendable, crosses) depth 30 steps 3000000)

pub role_sync : IsSync Role.the_row
role_sync = variants_sync Role.enum (search (sendable, crosses) depth 30 steps 3000000)

pub plan_send : IsSend Plan.the_row
plan_send = variants_send Plan.enum (search (sendable, crosses, role_send, role_sync, prefilter_send, prefilter_sync, frame_send, frame_sync, hir_send, hir_sync, ladder_send, ladder_sync) depth 30 steps 3000000)

pub plan_sync : IsSync Plan.the_row
plan_sync = variants_sync Plan.enum (search (sendable, crosses, role_send, role_sync, prefilter_send, prefilter_sync, frame_send, frame_sync, hir_send, hir_sync, ladder_send, ladder_sync) depth 30 steps 3000000)

pub plans_send : IsSend Plans.the_row
plans_send = declared_send Plans.the_type (search (sendable, crosses, plan_send, plan_sync) depth 30 steps 3000000)

pub plans_sync : IsSync Plans.the_row
plans_sync = declared_sync Plans.the_type (search (sendable, crosses, plan_send, plan_sync) depth 30 steps 3000000)

pub signs_send : IsSend Signs.the_row
signs_send = declared_send Signs.the_type (search (sendable, crosses, caseless_send, caseless_sync, hir_send, hir_sync) depth 30 steps 3000000)

pub signs_sync : IsSync Signs.the_row
signs_sync = declared_sync Signs.the_type (search (sendable, crosses, caseless_send, caseless_sync, hir_send, hir_sync) depth 30 steps 3000000)

pub program_send : IsSend Program.the_row
program_send = declared_send Program.the_type (search (sendable, crosses, hir_send, hir_sync, dfa_send, dfa_sync, plans_send, plans_sync, signs_send, signs_sync, byte_set_send, byte_set_sync) depth 30 steps 3000000)

pub program_sync : IsSync Program.the_row
program_sync = declared_sync Program.the_type (search (sendable, crosses, hir_send, hir_sync, dfa_send, dfa_sync, plans_send, plans_sync, signs_send, signs_sync, byte_set_send, byte_set_sync) depth 30 steps 3000000)

pub options_send : IsSend Options.the_row
options_send = declared_send Options.the_type (search (sendable, crosses) depth 30 steps 3000000)

pub options_sync : IsSync Options.the_row
options_sync = declared_sync Options.the_type (search (sendable, crosses) depth 30 steps 3000000)

pub source_send : IsSend Source.the_row
source_send = declared_send Source.the_type (search (sendable, crosses, options_send, options_sync, program_send, program_sync) depth 30 steps 3000000)

pub source_sync : IsSync Source.the_row
source_sync = declared_sync Source.the_type (search (sendable, crosses, options_send, options_sync, program_send, program_sync) depth 30 steps 3000000)

pub regex_send : IsSend Regex.the_row
regex_send = declared_send Regex.the_type (search (sendable, crosses, source_send, source_sync) depth 30 steps 3000000)

pub regex_sync : IsSync Regex.the_row
regex_sync = declared_sync Regex.the_type (search (sendable, crosses, source_send, source_sync) depth 30 steps 3000000)
