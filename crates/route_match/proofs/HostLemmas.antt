-- The best domain while hosts are searched, and the host that has it.
use Rattle.std.proofs.Common.{◌≡◌, ℕ, ◌+◌, ◌<◌, ◌≤◌, List, [], ◌∷◌, ◌++◌, length, take, get_or, Bool, true, false, cond, eqb, ◌&&◌, ◌||◌, Option, Some, None, refl, sym, ap, ◌∙◌, subst, arith}
use Rattle.std.proofs.lemmas.Bool.Decides.{nat_tests}
use Rattle.std.proofs.lemmas.List.{take_more, get_or_append_left, get_or_at, take-append-le, take_at, take_all, length_push, length-take-le, get_or-take}
use Rattle.std.proofs.lemmas.List.Elements.{All-push, All-weaker, Contains-push, Contains-append_left}
use Rattle.std.proofs.lemmas.List.Folds.{list_any_none}
use Rattle.std.specs.Prelude.{◌↔◌, All, Contains, nat_lt, option_map, IfSome, IsNone}
use Rattle.std.specs.List.{flat_map, list_any}
use Rattle.xds_config.specs.declared.route_values.Host.{Host}
use Rattle.route_match.specs.declared.domains.Rank.{Rank}
use Rattle.route_match.specs.Domains.{class_of, order_of, domain_met, is_preferred, met_domains, is_best, host, IsChosen, MeetsNone}
use Rattle.route_match.specs.Ranks.{rank, rank_of, outranks, better, IsBestRank, IsBestOf}
use Rattle.route_match.proofs.Members.{All-filtered, All-flat_map, Contains-filter, Contains-flat_map, list_any_contains, position_is, position_none}

-- the order of numbers by which domains are preferred: the lesser class, and of one class the greater length
abbrev pub comes_before : ℕ → ℕ → ℕ → ℕ → Bool
comes_before a b m n = nat_lt a b || (eqb a b && nat_lt n m)

numbers_turn : (e b o l m n : ℕ) → comes_before e o l n ≡ false → comes_before b o m n ≡ true → comes_before b e m l ≡ true
numbers_turn e b o l m n worse is = grind (arith, nat_tests)

numbers_stay : (e b o l m n : ℕ) → comes_before e o l n ≡ false → comes_before b o m n ≡ true → comes_before e b l m ≡ false
numbers_stay e b o l m n worse is = grind (arith, nat_tests)

numbers_chain : (e b o l m n : ℕ) → comes_before e b l m ≡ false → comes_before b o m n ≡ false → comes_before e o l n ≡ false
numbers_chain e b o l m n worse same = grind (arith, nat_tests)

numbers_own : (a m : ℕ) → comes_before a a m m ≡ false
numbers_own a m = grind (arith, nat_tests)

-- none is preferred to itself
prefers_no_own : (d : List ℕ) → is_preferred d d ≡ false
prefers_no_own d = numbers_own (order_of (class_of d)) (length d)

-- what isn't preferred to a domain isn't preferred to one that is
stays_behind : (e b o : List ℕ) → is_preferred e o ≡ false → is_preferred b o ≡ true → is_preferred e b ≡ false
stays_behind e b o worse is = numbers_stay (order_of (class_of e)) (order_of (class_of b)) (order_of (class_of o)) (length e) (length b) (length o) worse is

falls_behind : (e b o : List ℕ) → is_preferred e o ≡ false → is_preferred b o ≡ true → is_preferred b e ≡ true
falls_behind e b o worse is = numbers_turn (order_of (class_of e)) (order_of (class_of b)) (order_of (class_of o)) (length e) (length b) (length o) worse is

behind_both : (e b o : List ℕ) → is_preferred e b ≡ false → is_preferred b o ≡ false → is_preferred e o ≡ false
behind_both e b o worse same = numbers_chain (order_of (class_of e)) (order_of (class_of b)) (order_of (class_of o)) (length e) (length b) (length o) worse same

-- nothing is said of the domains that the text doesn't meet
unmet : (text : List ℕ) (P : List ℕ → Type 0) (d : List ℕ) → domain_met d text ≡ false → domain_met d text ≡ true → P d
unmet text P d misses meets = absurd (cc)

all_unmet : (text : List ℕ) (P : List ℕ → Type 0) (ds : List (List ℕ)) → All (λ d. domain_met d text ≡ false) ds → All (λ d. domain_met d text ≡ true → P d) ds
all_unmet text P ds none = All-weaker (λ d. domain_met d text ≡ false) (λ d. domain_met d text ≡ true → P d) (λ d. unmet text P d) ds none

-- one more domain that the text doesn't meet
passed_over : (ds : List (List ℕ)) (text : List ℕ) (n : ℕ) (best : Option Rank) (d : List ℕ) → domain_met d text ≡ false → IsBestOf ds text n best → IsBestOf (ds ++ d ∷ []) text n best
passed_over ds text n None d misses h = All-push (λ d. domain_met d text ≡ false) ds d h misses
passed_over ds text n (Some r) d misses h = record {
  domain = h.domain;
  own = Contains-append_left ds (d ∷ []) h.domain h.own;
  met = h.met;
  best = All-push (λ e. domain_met e text ≡ true → is_preferred e h.domain ≡ false) ds d h.best (unmet text (λ e. is_preferred e h.domain ≡ false) d misses);
  is = h.is;
}

new_best : (ds : List (List ℕ)) (text : List ℕ) (n : ℕ) (d : List ℕ) → domain_met d text ≡ true → All (λ e. domain_met e text ≡ true → is_preferred e d ≡ false) ds → IsBestRank (ds ++ d ∷ []) text n (rank n d)
new_best ds text n d meets behind = record {
  domain = d;
  own = Contains-push ds d;
  met = meets;
  best = All-push (λ e. domain_met e text ≡ true → is_preferred e d ≡ false) ds d behind (λ _. prefers_no_own d);
  is = refl;
}

chosen_of_two : (ds : List (List ℕ)) (text : List ℕ) (n : ℕ) (r : Rank) (d : List ℕ) (b : Bool) (h : IsBestRank ds text n r) → domain_met d text ≡ true → is_preferred d h.domain ≡ b → IsBestOf (ds ++ d ∷ []) text n (cond b (Some (rank n d)) (Some r))
chosen_of_two ds text n r d true h meets is =
    new_best ds text n d meets (All-weaker (λ e. domain_met e text ≡ true → is_preferred e h.domain ≡ false) (λ e. domain_met e text ≡ true → is_preferred e d ≡ false) (λ e f m. stays_behind e d h.domain (f m) is) ds h.best)
chosen_of_two ds text n r d false h meets is = record {
  domain = h.domain;
  own = Contains-append_left ds (d ∷ []) h.domain h.own;
  met = h.met;
  best = All-push (λ e. domain_met e text ≡ true → is_preferred e h.domain ≡ false) ds d h.best (λ _. is);
  is = h.is;
}

-- one more domain that the text meets
taken_in : (ds : List (List ℕ)) (text : List ℕ) (n : ℕ) (best : Option Rank) (d : List ℕ) → domain_met d text ≡ true → IsBestOf ds text n best → IsBestOf (ds ++ d ∷ []) text n (better best (Some (rank n d)))
taken_in ds text n None d meets h = new_best ds text n d meets (all_unmet text (λ e. is_preferred e d ≡ false) ds h)
taken_in ds text n (Some r) d meets h =
    let same : outranks (rank n d) r ≡ is_preferred d h.domain = ap (outranks (rank n d)) h.is in
    chosen_of_two ds text n r d (outranks (rank n d) r) h meets (sym same)

domain_by : (b : Bool) (ds : List (List ℕ)) (text : List ℕ) (n : ℕ) (best : Option Rank) (d : List ℕ) → domain_met d text ≡ b → IsBestOf ds text n best → IsBestOf (ds ++ d ∷ []) text n (better best (cond b (Some (rank n d)) None))
domain_by true ds text n best d e h = taken_in ds text n best d e h
domain_by false ds text n None d e h = passed_over ds text n None d e h
domain_by false ds text n (Some r) d e h = passed_over ds text n (Some r) d e h

pub domain_more : (ds : List (List ℕ)) (text : List ℕ) (n i : ℕ) (best : Option Rank) (d : List ℕ) → i < length ds → d ≡ get_or ds i d → IsBestOf (take i ds) text n best → IsBestOf (take (i + 1) ds) text n (better best (rank_of n d text))
domain_more ds text n i best d lt is h =
    let more : take (i + 1) ds ≡ take i ds ++ d ∷ [] = take_more ds i d lt ∙ ap (λ (x : List ℕ). take i ds ++ x ∷ []) (sym is) in
    subst (λ (xs : List (List ℕ)). IsBestOf xs text n (better best (rank_of n d text))) (sym more) (domain_by (domain_met d text) (take i ds) text n best d refl h)

-- the best among the hosts so far, if the text meets one of their domains
abbrev pub IsChosenOf : List Host → List ℕ → Option Rank → Type 0
IsChosenOf hosts text None = All (MeetsNone text) hosts
IsChosenOf hosts text (Some r) = (domain : List ℕ) × IsChosen hosts text r.host domain × (r ≡ rank r.host domain)

-- what a met domain of a host is to the best one, and the best one to it
abbrev pub AllBehind : List ℕ → List ℕ → Host → Type 0
AllBehind text best h = All (λ d. domain_met d text ≡ true → is_preferred d best ≡ false) h.domains

abbrev pub AllAfter : List ℕ → List ℕ → Host → Type 0
AllAfter text best h = All (λ d. domain_met d text ≡ true → is_preferred best d ≡ true) h.domains

-- the chosen host stays, where the next one has nothing that is preferred
stays_chosen : (hs : List Host) (h : Host) (text : List ℕ) (place : ℕ) (o : List ℕ) → IsChosen hs text place o → AllBehind text o h → IsChosen (hs ++ h ∷ []) text place o
stays_chosen hs h text place o c behind = record {
  within = let more = length_push hs h in let at = c.within in omega arith;
  own = λ d. let same = get_or_append_left hs (h ∷ []) d place c.within in subst (λ (x : Host). Contains x.domains o) (sym same) (c.own d);
  met = c.met;
  best = All-push (AllBehind text o) hs h c.best behind;
  first = subst (All (AllAfter text o)) (sym (take-append-le place hs (h ∷ []) (let at = c.within in omega arith))) c.first;
}

-- the next host is chosen, where its best is preferred to all before
next_chosen : (hs : List Host) (h : Host) (text : List ℕ) (r : Rank) (b : IsBestRank h.domains text (length hs) r) → All (AllAfter text b.domain) hs → All (AllBehind text b.domain) hs → IsChosen (hs ++ h ∷ []) text (length hs) b.domain
next_chosen hs h text r b after behind = record {
  within = let more = length_push hs h in omega arith;
  own = λ d. let same = get_or_at hs h [] d (length hs) refl in subst (λ (x : Host). Contains x.domains b.domain) (sym same) b.own;
  met = b.met;
  best = All-push (AllBehind text b.domain) hs h behind b.best;
  first = subst (All (AllAfter text b.domain)) (sym (take_at hs (h ∷ []) (length hs) refl)) after;
}

none_behind : (text best : List ℕ) (hs : List Host) → All (MeetsNone text) hs → All (AllBehind text best) hs
none_behind text best hs none = All-weaker (MeetsNone text) (AllBehind text best) (λ h misses. all_unmet text (λ d. is_preferred d best ≡ false) h.domains misses) hs none

none_after : (text best : List ℕ) (hs : List Host) → All (MeetsNone text) hs → All (AllAfter text best) hs
none_after text best hs none = All-weaker (MeetsNone text) (AllAfter text best) (λ h misses. all_unmet text (λ d. is_preferred best d ≡ true) h.domains misses) hs none

-- a host that has a better one takes the place of the chosen one
two_hosts : (b : Bool) (hs : List Host) (h : Host) (text : List ℕ) (r f : Rank) (o : List ℕ) (found : IsBestRank h.domains text (length hs) f) → IsChosen hs text r.host o → r ≡ rank r.host o → is_preferred found.domain o ≡ b → IsChosenOf (hs ++ h ∷ []) text (cond b (Some f) (Some r))
two_hosts true hs h text r f o found c is better_is =
    let behind : All (AllBehind text found.domain) hs = All-weaker (AllBehind text o) (AllBehind text found.domain)
    (λ (g : Host) all. All-weaker (λ d. domain_met d text ≡ true → is_preferred d o ≡ false) (λ d. domain_met d text ≡ true → is_preferred d found.domain ≡ false) (λ d f m. stays_behind d found.domain o (f m) better_is) g.domains all) hs c.best in
    let after : All (AllAfter text found.domain) hs = All-weaker (AllBehind text o) (AllAfter text found.domain)
    (λ (g : Host) all. All-weaker (λ d. domain_met d text ≡ true → is_preferred d o ≡ false) (λ d. domain_met d text ≡ true → is_preferred found.domain d ≡ true) (λ d f m. falls_behind d found.domain o (f m) better_is) g.domains all) hs c.best in
    let at : f.host ≡ length hs = ap (λ (x : Rank). x.host) found.is in
    (found.domain, subst (λ (n : ℕ). IsChosen (hs ++ h ∷ []) text n found.domain) (sym at) (next_chosen hs h text f found after behind), found.is ∙ ap (λ (n : ℕ). rank n found.domain) (sym at))
two_hosts false hs h text r f o found c is worse =
    let behind : AllBehind text o h =
    All-weaker (λ d. domain_met d text ≡ true → is_preferred d found.domain ≡ false) (λ d. domain_met d text ≡ true → is_preferred d o ≡ false) (λ d f m. behind_both d found.domain o (f m) worse) h.domains found.best in
    (o, stays_chosen hs h text r.host o c behind, is)

next_host : (hs : List Host) (h : Host) (text : List ℕ) (best found : Option Rank) → IsChosenOf hs text best → IsBestOf h.domains text (length hs) found → IsChosenOf (hs ++ h ∷ []) text (better best found)
next_host hs h text None None none misses = All-push (MeetsNone text) hs h none misses
next_host hs h text (Some r) None c misses = (c.0, stays_chosen hs h text r.host c.0 c.1 (all_unmet text (λ d. is_preferred d c.0 ≡ false) h.domains misses), c.2)
next_host hs h text None (Some f) none found =
    let at : f.host ≡ length hs = ap (λ (x : Rank). x.host) found.is in
    (found.domain, subst (λ (n : ℕ). IsChosen (hs ++ h ∷ []) text n found.domain) (sym at) (next_chosen hs h text f found (none_after text found.domain hs none) (none_behind text found.domain hs none)), found.is ∙ ap (λ (n : ℕ). rank n found.domain) (sym at))
next_host hs h text (Some r) (Some f) c found =
    let own : outranks f r ≡ is_preferred found.domain c.0 = ap (λ (x : Rank). outranks x r) found.is ∙ ap (outranks (rank (length hs) found.domain)) c.2 in
    two_hosts (outranks f r) hs h text r f c.0 found c.1 c.2 (sym own)

pub host_more : (hosts : List Host) (text : List ℕ) (i : ℕ) (best found : Option Rank) (h : Host) → i < length hosts → h ≡ get_or hosts i h → IsChosenOf (take i hosts) text best → IsBestOf h.domains text i found → IsChosenOf (take (i + 1) hosts) text (better best found)
host_more hosts text i best found h lt is c own =
    let more : take (i + 1) hosts ≡ take i hosts ++ h ∷ [] = take_more hosts i h lt ∙ ap (λ (x : Host). take i hosts ++ x ∷ []) (sym is) in
    let size : length (take i hosts) ≡ i = length-take-le i hosts (omega arith) in
    subst (λ (hs : List Host). IsChosenOf hs text (better best found)) (sym more)
    (next_host (take i hosts) h text best found c (subst (λ (n : ℕ). IsBestOf h.domains text n found) (sym size) own))

-- the chosen host is the first that has a best domain
best_domain : (hosts : List Host) (text : List ℕ) (place : ℕ) (o : List ℕ) → IsChosen hosts text place o → is_best hosts text o ≡ true
best_domain hosts text place o c =
    let joined = All-flat_map (λ (h : Host). h.domains) (λ d. domain_met d text ≡ true → is_preferred d o ≡ false) hosts c.best in
    let all = All-filtered (λ d. domain_met d text) (λ d. is_preferred d o ≡ false) (flat_map (λ (h : Host). h.domains) hosts) joined in
    let any = list_any_none (λ d. is_preferred d o) (met_domains hosts text) all in
    rw (c.met, any) refl

worse_domain : (hosts : List Host) (text : List ℕ) (d o : List ℕ) (b : Bool) → domain_met d text ≡ b → Contains (met_domains hosts text) o → (domain_met d text ≡ true → is_preferred o d ≡ true) → is_best hosts text d ≡ false
worse_domain hosts text d o true e has after =
    let any = list_any_contains (λ x. is_preferred x d) (met_domains hosts text) o has (after e) in
    rw (e, any) refl
worse_domain hosts text d o false e has after = rw e refl

pub chosen_is : (hosts : List Host) (text : List ℕ) (place : ℕ) (o : List ℕ) (d : Host) → IsChosen hosts text place o → host hosts text ≡ Some place
chosen_is hosts text place o d c =
    let p : Host → Bool = λ h. list_any (is_best hosts text) h.domains in
    let met = Contains-filter (λ x. domain_met x text) (flat_map (λ (h : Host). h.domains) hosts) o (Contains-flat_map (λ (h : Host). h.domains) hosts place d o c.within (c.own d)) c.met in
    position_is p hosts place d c.within
    (list_any_contains (is_best hosts text) (get_or hosts place d).domains o (c.own d) (best_domain hosts text place o c))
    (λ k before.
    let size = length-take-le place hosts (let at = c.within in omega arith) in
    let same = get_or-take place hosts k d before in
    let after = subst (AllAfter text o) same (c.first k d (omega arith)) in
    list_any_none (is_best hosts text) (get_or hosts k d).domains
    (All-weaker (λ x. domain_met x text ≡ true → is_preferred o x ≡ true) (λ x. is_best hosts text x ≡ false) (λ x f. worse_domain hosts text x o (domain_met x text) refl met f) (get_or hosts k d).domains after))

pub none_is : (hosts : List Host) (text : List ℕ) → All (MeetsNone text) hosts → host hosts text ≡ None
none_is hosts text none =
    position_none (λ (h : Host). list_any (is_best hosts text) h.domains) hosts
    (All-weaker (MeetsNone text) (λ h. list_any (is_best hosts text) h.domains ≡ false)
    (λ h misses. list_any_none (is_best hosts text) h.domains (All-weaker (λ d. domain_met d text ≡ false) (λ d. is_best hosts text d ≡ false) (λ d e. rw e refl) h.domains misses)) hosts none)

some_chosen : (hosts : List Host) (text : List ℕ) (place : ℕ) (o : List ℕ) → IsChosen hosts text place o → host hosts text ≡ Some place
some_chosen [] text place o c = absurd (let at = c.within in omega arith)
some_chosen (h ∷ hs) text place o c = chosen_is (h ∷ hs) text place o h c

misses_some : (hosts : List Host) (text : List ℕ) (place : ℕ) (o : List ℕ) → IsChosen hosts text place o → All (MeetsNone text) hosts → ⊥
misses_some [] text place o c none = let at = c.within in omega arith
misses_some (h ∷ hs) text place o c none =
    let own = c.own h in
    let misses = none place h c.within own.0 o own.1 in
    let meets = ap (λ (d : List ℕ). domain_met d text) own.2 ∙ c.met in
    cc

-- what the search ends with
pub record EndsWell (hosts : List Host) (text : List ℕ) (result : Option ℕ) : Type 0 where
  pub host : result ≡ host hosts text
  pub chosen : IfSome result (λ place. (domain : List ℕ) × IsChosen hosts text place domain)
  pub none : IsNone result ↔ All (MeetsNone text) hosts

ends_by : (hosts : List Host) (text : List ℕ) (best : Option Rank) → IsChosenOf hosts text best → EndsWell hosts text (option_map (λ r. r.host) best)
ends_by hosts text None c = record { host = sym (none_is hosts text c); chosen = tt; none = (λ _. c, λ _. refl) }
ends_by hosts text (Some r) c = record {
  host = sym (some_chosen hosts text r.host c.0 c.1);
  chosen = (c.0, c.1);
  none = (λ h. absurd (cc), λ none. absurd (misses_some hosts text r.host c.0 c.1 none));
}

pub ends_well : (items hosts : List Host) (text : List ℕ) (i : ℕ) (best : Option Rank) (result : Option ℕ) → items ≡ hosts → length items ≤ i → result ≡ option_map (λ r. r.host) best → IsChosenOf (take i items) text best → EndsWell hosts text result
ends_well items hosts text i best result same le is c =
    let whole = subst (λ (hs : List Host). IsChosenOf hs text best) (take_all i items le ∙ same) c in
    subst (EndsWell hosts text) (sym is) (ends_by hosts text best whole)
