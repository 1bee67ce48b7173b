-- What a right history keeps of the clusters that calls refer to, told of a whole history.
use Rattle.std.proofs.Common.{List, ◌∷◌, ◌++◌, subst}
use Rattle.call_journal.specs.declared.entry.Entry.{Entry}
use Rattle.book_calls.specs.xds_history.Setting.{Setting}
use Rattle.book_calls.specs.xds_history.Right.{Right}
use Rattle.book_calls.proofs.xds_history.KeepProofs.{latest_has_references, published_has_held, published_has_pinned, right_past, whole_has_no_others}
use Rattle.xds_book.specs.ReferencesKept.{IsEntryOf, KeepsHeld, KeepsNoOthers, KeepsPinned, LatestHasThem}

right_at : (s : Setting) (history : List Entry) (e : Entry) (past : List Entry) → (at : IsEntryOf history e past) → Right s history → Right s (at.later ++ e ∷ past)
right_at s history e past at right = subst (λ (h : List Entry). Right s h) at.is right

pub latest_has_them : (s : Setting) (history : List Entry) → Right s history → LatestHasThem s history
latest_has_them s history right = λ later past is name among.
    latest_has_references s past (right_past s later past (subst (λ (h : List Entry). Right s h) is right)) name among

pub keeps_pinned : (s : Setting) (history : List Entry) → Right s history → KeepsPinned s history
keeps_pinned s history right = λ e past at snapshot is call number pin.
    published_has_pinned s at.later e past (right_at s history e past at right) snapshot is call number pin

pub keeps_held : (s : Setting) (history : List Entry) → Right s history → KeepsHeld s history
keeps_held s history right = λ e past at snapshot is call name holds.
    published_has_held s at.later e past (right_at s history e past at right) snapshot is call name holds

pub keeps_no_others : (s : Setting) (history : List Entry) → Right s history → KeepsNoOthers s history
keeps_no_others s history right = λ e past at whole config is.
    whole_has_no_others s at.later e past (right_at s history e past at right) whole config is
