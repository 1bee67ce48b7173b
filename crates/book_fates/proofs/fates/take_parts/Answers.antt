use Rattle.std.proofs.Common.{◌∷◌, [], ap, arith, length, length-append, sym, subst, option_map}
use Rattle.std.specs.Prelude.{IfOk}
use Rattle.std.proofs.lemmas.List.Elements.{All-take}
use Rattle.xds_cache.specs.KeptFates.{known_of}
use Rattle.book_fates.specs.FateSteps.{parts_step, AreLawfulParts, IsLawfulOf}
use Rattle.book_fates.proofs.ListedLemmas.{listed_on}
use Rattle.book_fates.proofs.PlaceLemmas.{fewer_parts}
use Rattle.book_fates.proofs.fates.take_parts.Goals as goal

pub loop-part-preserved : goal.loop-part-preserved
loop-part-preserved c = record {
  lawful = subst (λ parts. AreLawfulParts c.args.kind parts) (sym c.in-Some.ensures.rest) (All-take (λ part. IfOk part.result (IsLawfulOf c.args.kind)) _ c.loop-part.left.items c.loop-part.invariant.lawful);
  step = fewer_parts c.loop-part.cache c.take_part.new.cache c.args.authority c.args.kind c.loop-part.left.items c.pop.new.self.items c.in-Some.part
      (λ key. option_map (parts_step c.args.authority c.args.kind c.args.parts key) (known_of c.args.cache.now key)) c.in-Some.ensures.items c.in_ok-take_part.ensures.step c.loop-part.invariant.step;
  listed = listed_on c.args.cache.now c.loop-part.cache c.take_part.new.cache c.args.changed.now c.loop-part.changed c.take_part.new.changed c.loop-part.invariant.listed c.in_ok-take_part.ensures.listed;
  theirs = λ all. c.in_ok-take_part.ensures.theirs (c.loop-part.invariant.theirs all);
  few = omega (arith, c.loop-part.invariant.few, c.in_ok-take_part.ensures.few, ap length c.in-Some.ensures.items, length-append c.pop.new.self.items (c.in-Some.part ∷ []));
}
