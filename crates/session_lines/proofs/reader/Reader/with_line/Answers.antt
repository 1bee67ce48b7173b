use Rattle.session_lines.proofs.KeptLemmas.{kept_more}
use Rattle.session_lines.proofs.reader.Reader.with_line.Goals as goal

pub invariant_of-result : goal.invariant_of-result
invariant_of-result c =
    let few = rw (← c.self.view_is) at c.requires.few in
    let fits = rw (← c.self.view_is) at c.requires.bytes in
    let owned = rw (← c.self.view_is) at c.requires.call in
    kept_more c.self.inside.lines.items c.push.new.self.items c.args.line c.self.inside.driver_lines c.self.inside.bytes c.self.inside.entries c.self.inside.time
    c.driver_lines.result c.data_len.result c.entries.result c.later-time.result c.self.inside.uses.items c.in_ok-uses.uses.items
    c.self.invariant c.in_ok-push.ensures.items few fits owned c.driver_lines.ensures c.data_len.ensures c.entries.ensures
    (rw (← c.time.ensures) c.later-time.ensures) c.in_ok-uses.ensures.callers c.in_ok-uses.ensures.started
