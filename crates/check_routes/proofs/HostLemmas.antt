-- The names of a virtual host: how many different ones there are.
use Rattle.std.proofs.Common.{◌≡◌, ◌≤◌, ◌<◌, ℕ, zero, suc, ◌+◌, ◌-◌, leb, subst, List, [], ◌∷◌, length, take, reverse, Bool, true, false, cond, ◌||◌, ◌&&◌, get_or, refl, sym, ap, ◌∙◌, arith}
use Rattle.std.specs.Prelude.{All, Contains, IsTrue, bytes_eq, Ok}
use Rattle.std.specs.List.{list_all}
use Rattle.std.specs.Ordering.{nat_cmp, is_eq}
use Rattle.std.specs.Cmp.Lexicographic.{slice_cmp, texts_ties}
use Rattle.std.specs.BTreeSet.{BTreeSet}
use Rattle.std.proofs.lemmas.Bool.Decides.{nat_tests}
use Rattle.std.proofs.lemmas.List.{get_or-reverse, length-reverse, reverse-append, take_more}
use Rattle.std.proofs.lemmas.List.Elements.{All-cons, All-nil}
use Rattle.std.proofs.lemmas.Option.{slice_get-get_or, get_or_from_slice_get}
use Rattle.std.proofs.lemmas.Slice.Eq.{bytes_eq-Decides}
use Rattle.xc_base.specs.declared.reason.Reason.{Reason}
use Rattle.proto_route.specs.declared.routes.RawVirtualHost.{RawVirtualHost}
use Rattle.xds_config.specs.declared.route_values.Host.{Host}
use Rattle.xds_config.specs.declared.route_values.Route.{Route}
use Rattle.xds_config.specs.RouteValues.{HasAtMost, IsLawfulHost, host_clusters, is_domain}
use Rattle.check_routes.specs.LawfulRoutes.{AreLawfulRoutes}
use Rattle.check_routes.specs.RouteTable.{different, host_with, is_among, names_few}
use Rattle.check_steps.specs.Sets.{Gains, has}
use Rattle.check_steps.specs.TableSteps.{demand}

-- ---- different names

counted_by : (b : Bool) (count : ℕ) (name : List ℕ) (rest : List (List ℕ)) → count ≡ length rest → count + cond b 0 1 ≡ length (cond b rest (name ∷ rest))
counted_by true count name rest e = omega arith
counted_by false count name rest e = omega arith

pub counted_more : (names : List (List ℕ)) (i : ℕ) (name : List ℕ) (count more : ℕ) (was : Bool) → i < length names → name ≡ get_or names i name → count ≡ length (different (reverse (take i names)))
    → was ≡ is_among name (reverse (take i names)) → more ≡ cond was 0 1 → count + more ≡ length (different (reverse (take (i + 1) names)))
counted_more names i name count more was lt is counted among e =
    rw (take_more names i name lt, ← is, reverse-append, e, among)
    (counted_by (is_among name (reverse (take i names))) count name (different (reverse (take i names))) counted)

pub few_more : (b : Bool) (n more i : ℕ) → n ≤ i → more ≡ cond b 0 1 → n + more ≤ i + 1
few_more true n more i le e = omega arith
few_more false n more i le e = omega arith

pub seen_more : (names : List (List ℕ)) (i : ℕ) (name other : List ℕ) (old new : BTreeSet (List ℕ)) → i < length names → name ≡ get_or names i name
    → Gains old new name → has old other ≡ is_among other (reverse (take i names)) → has new other ≡ is_among other (reverse (take (i + 1) names))
seen_more names i name other old new lt is gains kept = rw (take_more names i name lt, ← is, reverse-append, gains other, kept) refl

-- what a set says of a name that was added
gained_by : (b old : Bool) → cond b true old ≡ (b || old)
gained_by true old = refl
gained_by false old = refl

pub gained : (name other : List ℕ) (old new : Bool) → new ≡ cond (is_eq (slice_cmp nat_cmp name other)) true old → new ≡ (bytes_eq name other || old)
gained name other old new e = rw (e, texts_ties name other) (gained_by (is_eq (slice_cmp nat_cmp name other)) old)

-- ---- a host that names few clusters

moved_in : (names : List (List ℕ)) (x y : List ℕ) → x ≡ y → Contains names x → Contains names y
moved_in names x y e h = let P : List ℕ → Type 0 = λ z. Contains names z in subst P e h

kept_in : (names : List (List ℕ)) (x y : List ℕ) → Contains names x → Contains (y ∷ names) x
kept_in names x y h = (suc h.0, omega (arith, h.1), h.2)

bytes_eq-true : (a b : List ℕ) → bytes_eq a b ≡ true → a ≡ b
bytes_eq-true a b e = (bytes_eq-Decides a b).0 e

among_by : (name first : List ℕ) (names : List (List ℕ)) (b : Bool) → bytes_eq first name ≡ b → (b || is_among name names) ≡ true → (is_among name names ≡ true → Contains names name) → Contains (first ∷ names) name
among_by name first names true e h rest = (0, omega arith, bytes_eq-true first name e)
among_by name first names false e h rest = kept_in names name first (rest h)

-- a name that is among others stands there
among_at : (name : List ℕ) (names : List (List ℕ)) → is_among name names ≡ true → Contains names name
among_at name [] h = cc
among_at name (first ∷ names) h = among_by name first names (bytes_eq first name) refl h (λ t. among_at name names t)

-- each of the names is one of the different ones
each_of : (name : List ℕ) (names : List (List ℕ)) (b : Bool) → is_among name names ≡ b → ((x : List ℕ) → Contains names x → Contains (different names) x) → Contains (cond b (different names) (name ∷ different names)) name
each_of name names true e rest = rest name (among_at name names e)
each_of name names false e rest = (0, omega arith, refl)

older_of : (b : Bool) (names : List (List ℕ)) (name x : List ℕ) → Contains names x → Contains (cond b names (name ∷ names)) x
older_of true names name x h = h
older_of false names name x h = kept_in names x name h

all_different : (names : List (List ℕ)) (x : List ℕ) → Contains names x → Contains (different names) x
all_different [] x h = absurd (omega (arith, h.1))
all_different (name ∷ names) x (zero, lt, e) = moved_in (different (name ∷ names)) name x e (each_of name names (is_among name names) refl (all_different names))
all_different (name ∷ names) x (suc k, lt, e) = older_of (is_among name names) (different names) name x (all_different names x (k, omega arith, e))

in_reverse : (names : List (List ℕ)) (k : ℕ) (d : List ℕ) → k < length names → Contains (reverse names) (get_or names k d)
in_reverse names k d lt =
    let x : List ℕ = get_or names k d in
    let place : length names - 1 - k < length names = omega arith in
    let back : length names - 1 - (length names - 1 - k) ≡ k = omega arith in (
      length names - 1 - k,
      rw length-reverse place,
      get_or-reverse names (length names - 1 - k) x place ∙ (ap (λ j. get_or names j x) back ∙ get_or_from_slice_get names k x x (slice_get-get_or names k d lt)),
    )

pub names_at_most : (names : List (List ℕ)) → leb (length (different (reverse names))) 1024 ≡ true → HasAtMost 1024 names
names_at_most names few = record {
  all = different (reverse names);
  few = grind (arith, nat_tests);
  each = λ k d lt. all_different (reverse names) (get_or names k d) (in_reverse names k d lt);
}

-- ---- a virtual host that passed its checks

domains_by : (domain : List ℕ) (domains : List (List ℕ)) (b : Bool) → is_domain domain ≡ b → (b && list_all is_domain domains) ≡ true → (list_all is_domain domains ≡ true → All (λ d. IsTrue (is_domain d)) domains)
    → All (λ d. IsTrue (is_domain d)) (domain ∷ domains)
domains_by domain domains true is all rest = All-cons (λ d. IsTrue (is_domain d)) domain domains is (rest all)
domains_by domain domains false is all rest = cc

all_domains : (domains : List (List ℕ)) → list_all is_domain domains ≡ true → All (λ d. IsTrue (is_domain d)) domains
all_domains [] all = All-nil (λ d. IsTrue (is_domain d))
all_domains (domain ∷ domains) all = domains_by domain domains (is_domain domain) refl all (λ rest. all_domains domains rest)

pub lawful_host : (host : Host) → list_all is_domain host.domains ≡ true → AreLawfulRoutes host.routes → names_few host ≡ true → IsLawfulHost host
lawful_host host domains routes few = record {
  domains = all_domains host.domains domains;
  routes = routes.each;
  rising = routes.rising;
  few = routes.few;
  clusters = names_at_most (host_clusters host) few;
}

-- a test that is demanded and given holds
demanded : (test : Bool) (reason : Reason) (given : Unit {0}) → demand test reason ≡ Ok given → test ≡ true
demanded true reason given is = refl
demanded false reason given is = cc

pub lawful_with : (host : Host) (raw : RawVirtualHost) (routes : List Route) (sound few : Bool) (domain many : Reason) (first last : Unit {0}) → host ≡ host_with raw routes → sound ≡ list_all is_domain raw.domains
    → demand sound domain ≡ Ok first → AreLawfulRoutes routes → few ≡ names_few host → demand few many ≡ Ok last → IsLawfulHost host
lawful_with host raw routes sound few domain many first last with_routes are_sound first_given lawful are_few last_given =
    lawful_host host
    (ap (λ (h : Host). list_all is_domain h.domains) with_routes ∙ (sym are_sound ∙ demanded sound domain first first_given))
    (let P : Host → Type 0 = λ h. AreLawfulRoutes h.routes in subst P (sym with_routes) lawful)
    (sym are_few ∙ demanded few many last last_given)
