-- What is lent, as values.
use Rattle.std.specs.Prelude.{ℕ, List, [], Option, Some, None, option_map}
use Rattle.std.specs.Borrow.{Bor}
use Rattle.xds_name.specs.NameTexts.{seen}
use Rattle.session_lines.specs.Lines.{words_of}
use Rattle.session_lines.specs.Forms.{Form}
use Rattle.session_lines.specs.Forms as form
use Rattle.session_lines.specs.declared.words.Words.{Words}
use Rattle.session_lines.specs.declared.forms.Form as declared
use Rattle.session_lines.specs.declared.forms.Form.TheVariants as lent

-- the words that are left
abbrev pub words_left : Option (Bor (List ℕ)) → List (List ℕ)
words_left None = []
words_left (Some rest) = words_of rest.now

abbrev pub words_in : Words → List (List ℕ)
words_in words = words_left words.rest

abbrev pub form_in : declared.Form → Form
form_in (lent.Opened authority) = form.opened authority.now
form_in (lent.Bytes authority digits) = form.bytes authority.now digits.now
form_in (lent.Lost authority) = form.lost authority.now
form_in (lent.Moment time) = form.moment time.now
form_in (lent.Endpoint address state) = form.endpoint address.now state.now
form_in lent.Sweep = form.sweep
form_in (lent.Start words) = form.start words.caller.now words.call.now words.word.now words.path.now (words_in words.fields)
form_in (lent.Pick caller call word) = form.pick caller.now call.now word.now
form_in (lent.Commit caller call) = form.commit caller.now call.now

abbrev pub seen_form : Option declared.Form → Option Form
seen_form found = option_map form_in found

abbrev pub seen_gate : Option (Bor (List ℕ)) × Words → Option (List ℕ) × List (List ℕ)
seen_gate found = (seen found.0, words_in found.1)
