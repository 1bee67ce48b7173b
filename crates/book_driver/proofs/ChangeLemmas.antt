-- Of which watched keys something else may be known after an event.
use Rattle.std.proofs.Common.{◌≡◌, false, Option, Some, None, List, [], refl, ap, ◌∙◌, is_some, option_map}
use Rattle.std.specs.Prelude.{if◌then◌else◌, IsSome}
use Rattle.xc_base.specs.declared.names.Key.{Key}
use Rattle.xds_cache.specs.declared.fate.Known.{Known}
use Rattle.xds_cache.specs.KeptFates.{Watched as Rows, known_of}
use Rattle.config_assembly.specs.Watching.{has_key}
use Rattle.dep_manager.specs.KeptAssemblies.{AreChanges}
use Rattle.driver_step.specs.book_fates.declared.answered.Answered.{Answered}
use Rattle.driver_step.specs.book_fates.Delivered.{delivered_in, told_as}
use Rattle.driver_step.specs.book_fates.FateSteps.{AreListed, Stepped, out_among, told_step}

-- ---- by what an event makes of each key

same_some : (f : Known → Known) (o : Option Known) → is_some (option_map f o) ≡ is_some o
same_some f None = refl
same_some f (Some known) = refl

same_known : (f : Known → Known) (o : Option Known) → (IsSome o → (known : Known) → f known ≡ known) → option_map f o ≡ o
same_known f None same = refl
same_known f (Some known) same = ap (λ k. Some k) (same refl known)

pub stepped_changes : (step : Key → Known → Known) (old new : Rows) (changed : List Key) → Stepped old new step →
    ((key : Key) → IsSome (known_of old key) → has_key changed key ≡ false → (known : Known) → step key known ≡ known) → AreChanges old new changed
stepped_changes step old new changed stepped same = record {
  watched = λ key. ap (λ o. is_some o) (stepped key) ∙ same_some (step key) (known_of old key);
  others = λ key lone. stepped key ∙ same_known (step key) (known_of old key) (λ some. same key some lone);
}

-- nothing changes
pub same_changes : (old new : Rows) (changed : List Key) → new ≡ old → AreChanges old new changed
same_changes old new changed same = record {
  watched = λ key. ap (λ rows. is_some (known_of rows key)) same;
  others = λ key lone. ap (λ rows. known_of rows key) same;
}

-- keys run out
pub out_changes : (old new : Rows) (keys : List Key) → Stepped old new (out_among keys) → AreChanges old new keys
out_changes old new keys stepped = stepped_changes (out_among keys) old new keys stepped (λ key some lone known. ap (λ b. if b then Known.Absent else known) lone)

-- ---- by what comes

-- of what a response doesn't list nothing else is known
pub told_changes : (a : Answered) (old new : Rows) (changed : List Key) → Stepped old new (told_step (told_as (delivered_in a))) → AreListed old new [] changed → AreChanges old new changed
told_changes a old new changed stepped listed = record {
  watched = λ key. ap (λ o. is_some o) (stepped key) ∙ same_some (told_step (told_as (delivered_in a)) key) (known_of old key);
  others = λ key lone. (listed key lone).1;
}
