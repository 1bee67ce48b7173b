-- The texts that the driver's lane has refused, and those of a builder.
use Rattle.std.proofs.Common.{◌≡◌, List, [], ◌∷◌, ◌++◌, length, take, Result, Ok, Err, IfOk, refl, sym, ap, ◌∙◌, subst, append_assoc, append-nil}
use Rattle.check_steps.specs.Asking.{IsSubsequence}
use Rattle.check_steps.proofs.AskingLemmas.{subsequence_append}
use Rattle.config_assembly.specs.Orders.{Name}
use Rattle.call_journal.specs.declared.entry.Entry.{Entry}
use Rattle.channel_crossing.specs.channel_calls.LockedBooks.{IsDriven}
use Rattle.channel_crossing.specs.xds_history.Responses.{refused_texts}
use Rattle.closed_book.specs.xds_book.BookEntries.{first_lane}
use Rattle.closed_book.specs.xds_book.BookViews.{LaneView}
use Rattle.closed_book.specs.session_player.Stages.{Refuses}
use Rattle.threaded_player.specs.ThreadedPlay.{HasGrown, IsDriverFrom}

-- before anything is played
pub driver_first : (told : List Name) (lane : LaneView) → lane ≡ first_lane 0 → IsDriverFrom told told lane
driver_first told lane is = subst (λ (l : LaneView). IsDriverFrom told told l) (sym is) (record {
  driver = refl;
  texts = [];
  told_them = sym (append-nil told);
  among = tt;
})

-- one event more
pub driver_more : (told p q : List Name) (before after : LaneView) → IsDriven before after p q → IsDriverFrom told p before → IsDriverFrom told q after
driver_more told p q before after driven from = record {
  driver = driven.lane.actor ∙ from.driver;
  texts = from.texts ++ driven.texts;
  told_them = driven.told_them ∙ (ap (λ (xs : List Name). xs ++ driven.texts) from.told_them ∙ append_assoc told from.texts driven.texts);
  among = subst (λ (xs : List Name). IsSubsequence xs (from.texts ++ driven.texts)) (sym driven.lane.refused)
      (subsequence_append before.refused from.texts driven.lane.gained driven.texts from.among driven.lane.among);
}

-- ---- builders

take_whole : (xs : List Name) → take (length xs) xs ≡ xs
take_whole [] = refl
take_whole (x ∷ xs) = ap (λ (ys : List Name). x ∷ ys) (take_whole xs)

-- nothing was built
pub grown_none : (xs : List Name) → HasGrown xs xs
grown_none xs = take_whole xs

-- the part by which texts have grown
behind : (xs ys : List Name) → HasGrown xs ys → (more : List Name) × (ys ≡ xs ++ more)
behind [] ys grown = (ys, refl)
behind (x ∷ xs) [] grown = absurd (cc grown)
behind (x ∷ xs) (y ∷ ys) grown =
    let rest : HasGrown xs ys = tail_same grown in
    let found = behind xs ys rest in
    (found.0, head_too found.0 (sym (head_same grown)) found.1)
  where
    tail_same : (y ∷ take (length xs) ys) ≡ (x ∷ xs) → take (length xs) ys ≡ xs
    tail_same h = cc h

    head_same : (y ∷ take (length xs) ys) ≡ (x ∷ xs) → y ≡ x
    head_same h = cc h

    head_too : (more : List Name) → x ≡ y → ys ≡ xs ++ more → (y ∷ ys) ≡ (x ∷ xs) ++ more
    head_too more h k = cc (h, k)

-- ---- what is reported

-- the driver's lane has refused what the history has
pub refuses_by : (told tells : List Name) (lane : LaneView) (history : List Entry) → IsDriverFrom told tells lane → refused_texts history ≡ lane.refused → Refuses [] history told tells
refuses_by told tells lane history from same = record {
  told = from.texts;
  told_is = from.told_them;
  kept = lane.refused;
  kept_is = same;
  among = from.among;
}

nothing_among : (ys : List Name) → IsSubsequence [] ys
nothing_among [] = tt
nothing_among (y ∷ ys) = tt

-- what was refused before doesn't matter
pub refuses_later : (told between tells : List Name) (history : List Entry) → HasGrown told between → Refuses [] history between tells → Refuses [] history told tells
refuses_later told between tells history grown later =
    let part = behind told between grown in
    record {
      told = part.0 ++ later.told;
      told_is = later.told_is ∙ (ap (λ (xs : List Name). xs ++ later.told) part.1 ∙ append_assoc told part.0 later.told);
      kept = later.kept;
      kept_is = later.kept_is;
      among = subsequence_append [] part.0 later.kept later.told (nothing_among part.0) later.among;
    }

-- the same for what is played, if it is
pub refuses_if : {X E : Type 0} (history : X → List Entry) (o : Result X E) (told between tells : List Name) → HasGrown told between → IfOk o (λ x. Refuses [] (history x) between tells)
    → IfOk o (λ x. Refuses [] (history x) told tells)
refuses_if history (Ok x) told between tells grown later = refuses_later told between tells (history x) grown later
refuses_if history (Err e) told between tells grown later = tt

-- what holds of what is played, if it is, gives something else of it
pub if_more : {X E : Type 0} (P Q : X → Type 0) (o : Result X E) → ((x : X) → P x → Q x) → IfOk o P → IfOk o Q
if_more P Q (Ok x) more h = more x h
if_more P Q (Err e) more h = tt
