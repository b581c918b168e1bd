-- The check of a tree, over any reading of its entries: each must fit behind the one before it, and a twin is searched for only where one may be.
-- Assumes nothing.
use Prim.Native.Nat.{Ordering}
use Prim.Native.Nat.{ℕ, suc, ◌+◌, ◌≤◌, ◌<◌}
use mathlib.Core.Path.{◌≡◌, refl, sym, ap, ◌∙◌, subst}
use mathlib.Core.List.{[], ◌∷◌}
use mathlib.Core.Option.{Option, none, some}
use mathlib.Core.Bool.{Bool, true, false, cond, not, ◌&&◌, ◌||◌, false≢true}
use native.Mathlib.Nat.{add-zero, zero-add}
use native.Mathlib.Omega.{arith}
use lib.Dec.{eqb}
use lib.ListN.{length}
use borrow.Author.Tests.{eq-eqb}
use Rattle.model.specs.Bytes.{Bytes, cmp, by, same}
use Rattle.model.specs.Map.{rising_from}
use Rattle.model.specs.Tree.{is_tree, Entry, Tree, as_kind, key, good_name, among, distinct, good_entries, well_formed, name_bytes}
use Rattle.model.specs.Raw.{more, if_good}
use Rattle.model.proofs.Basics.{none_some, some_inj, and_left, and_right, and_false}
use Rattle.model.proofs.ByteLaws.{same_eq}
use Rattle.names.specs.Answers.{as_ordering}
use Rattle.names.specs.Check.{TreeSize, size_of, is_less, names_of, tree_among, TwinIs, well_after, plain, besides, well_past, FitsIs, check_past, Checking, Wide}
use Rattle.names.specs.Standings.{StandsIn, StandsAs}
use Rattle.names.specs.declared.neighbour.Standing.{Standing}
use Rattle.names.specs.declared.neighbour.Standing.TheVariants.{Apart, Within, Wrong}
use Rattle.std.specs.declared.cmp.Ordering as std
use Rattle.std.specs.declared.cmp.Ordering.TheVariants.{Less, Equal, Greater}
use Rattle.names.proofs.FollowLaws.{is_less_lem, after_less, after_all, Proper, proper, none_after, early}
use Rattle.names.proofs.StandingLaws.{good_plain}

-- the entries are one and those after it
pub record Begins (here : Option Tree) (e : Entry) (there : Option Tree) : Type 0 where
  pub is : here ≡ more e there

-- The search for the tree of a name: what is left of the entries, where there are some.
pub record Twinning (later : Option Tree) (name : Bytes) (here : Option Tree) : Type 0 where
  pub rest : (es : Tree) → later ≡ some es → (ds : Tree) × (here ≡ some ds) × (tree_among name es ≡ tree_among name ds)

pub twin_begin : (later : Option Tree) (name : Bytes) → Twinning later name later
twin_begin later name = record { rest = λ es p. (es, p, refl) }

module _ {later : Option Tree} {name : Bytes} {here : Option Tree} (s : Twinning later name here) where
  module _ {d : Entry} {there : Option Tree} (e : Begins here d there) (o : std.Ordering) (eo : as_ordering o ≡ cmp (key d) (as_kind true name)) where
    next_one : (es : Tree) → later ≡ some es → (cs : Tree) × (there ≡ some cs) × (tree_among name es ≡ by (as_ordering o) (tree_among name cs) true false)
    unfolding tree_among
    next_one es p = go there refl
      where
        go : (q : Option Tree) → there ≡ q → (cs : Tree) × (there ≡ some cs) × (tree_among name es ≡ by (as_ordering o) (tree_among name cs) true false)
        go none f = let x = s.rest es p in none_some x.0 (sym (e.is ∙ ap (more d) f) ∙ x.1)
        go (some cs) f =
            let x = s.rest es p in
            let g : d ∷ cs ≡ x.0 = some_inj (d ∷ cs) x.0 (sym (e.is ∙ ap (more d) f) ∙ x.1) in
            (cs, f, x.2 ∙ ap (tree_among name) (sym g) ∙ rw eo)

    pub twin_less : o ≡ Less → Twinning later name there
    twin_less f = record { rest = λ es p. let x = next_one es p in (x.0, x.1, x.2 ∙ ap (λ (q : std.Ordering). by (as_ordering q) (tree_among name x.0) true false) f) }

    pub twin_equal : o ≡ Equal → TwinIs name later true
    twin_equal f = record { is = λ es p. let x = next_one es p in sym (x.2 ∙ ap (λ (q : std.Ordering). by (as_ordering q) (tree_among name x.0) true false) f) }

    pub twin_greater : o ≡ Greater → TwinIs name later false
    twin_greater f = record { is = λ es p. let x = next_one es p in sym (x.2 ∙ ap (λ (q : std.Ordering). by (as_ordering q) (tree_among name x.0) true false) f) }

-- The check follows the entries: a tree is well formed exactly if its entries may follow nothing.
six_tests : (a b c d e f g : Bool) → b ≡ true → ((a && b && c) && (d && e) && (f && g)) ≡ (a && (d && (f && (c && e && g))))
six_tests true b true true true true g h = rw h
six_tests true b true true true false g h = rw h
six_tests true b true true false true g h = rw h
six_tests true b true true false false g h = rw h
six_tests true b true false e f g h = rw h
six_tests true b false true e true g h = rw h
six_tests true b false true e false g h = rw h
six_tests true b false false e f g h = rw h
six_tests false b c d e f g h = refl

well_from : (w : ℕ) (k : Bytes) (t : Tree) → Wide w t → (good_entries w t && rising_from key k t && distinct (names_of t)) ≡ well_after k t
unfolding well_after
well_from w k [] h = refl
well_from w k (e ∷ es) h =
    six_tests (good_name e.name) (eqb (length e.id) w) (good_entries w es) (is_less (cmp k (key e))) (rising_from key (key e) es) (not (among e.name (names_of es))) (distinct (names_of es)) (eq-eqb (length e.id) w h.0)
    ∙ ap (λ (z : Bool). good_name e.name && (is_less (cmp k (key e)) && (not (among e.name (names_of es)) && z))) (well_from w (key e) es h.1)

-- nothing is before every good name
first_above : (n : Bytes) (t : Bool) → good_name n ≡ true → cmp [] (as_kind t n) ≡ Ordering.lt
unfolding good_name
first_above [] t h = absurd (let z : ◌≡◌ {A = ℕ} 0 1 = cc in omega arith)
first_above (x ∷ n) true h = refl
first_above (x ∷ n) false h = refl

first_besides : (n : Bytes) (t : Bool) → good_name n ≡ true → besides [] false n t ≡ true
unfolding besides
first_besides n t h = rw (h, first_above n false h, first_above n t h)

pub well_is : (w : ℕ) (t : Tree) → Wide w t → well_formed w t ≡ well_after [] t
unfolding well_formed
well_is w [] h = well_from w [] [] h
well_is w (e ∷ es) h = go (good_name e.name) refl ∙ well_from w [] (e ∷ es) h
  where
    go : (b : Bool) → good_name e.name ≡ b →
        (good_entries w (e ∷ es) && rising_from key (key e) es && distinct (names_of (e ∷ es))) ≡ (good_entries w (e ∷ es) && (is_less (cmp [] (key e)) && rising_from key (key e) es) && distinct (names_of (e ∷ es)))
    go true g = rw (first_above e.name (is_tree e.mode) g)
    go false g = rw g

-- Whether an entry fits, from how it stands to the one before it.
besides_less : (p : Bytes) (pt : Bool) (n : Bytes) (t : Bool) → besides p pt n t ≡ true → cmp (as_kind pt p) (as_kind t n) ≡ Ordering.lt
unfolding besides
besides_less p pt n t h =
    is_less_lem (cmp (as_kind pt p) (as_kind t n))
    (and_right (not (same p n)) (is_less (cmp (as_kind pt p) (as_kind t n))) (and_right (good_name n) (not (same p n) && is_less (cmp (as_kind pt p) (as_kind t n))) h))

besides_good : (p : Bytes) (pt : Bool) (n : Bytes) (t : Bool) → besides p pt n t ≡ true → good_name n ≡ true
unfolding besides
besides_good p pt n t h = and_left (good_name n) (not (same p n) && is_less (cmp (as_kind pt p) (as_kind t n))) h

past_after : (n : Bytes) (t : Bool) (es : Tree) → well_past n t es ≡ true → well_after (as_kind t n) es ≡ true
unfolding well_past
past_after n t es h = and_right (not (among n (names_of es))) (well_after (as_kind t n) es) h

module _ {p : Bytes} {pt : Bool} {n : Bytes} {t : Bool} {later : Option Tree} {o : Standing} (st : StandsAs p pt n t o) where
  -- after an entry past the tree of the name, no entry has the name
  pub fit_apart : o ≡ Apart → FitsIs p pt n t later true
  fit_apart e =
      let x : StandsIn p pt n t Apart = subst (StandsIn p pt n t) e st.is in
      record {
        may = λ q. x.0;
        is = λ es q w.
            let a = none_after p es (after_less (as_kind true p) (as_kind t n) es x.1 (after_all (as_kind t n) es (past_after n t es w))) in
            rw (x.0, a);
      }

  pub fit_wrong : o ≡ Wrong → FitsIs p pt n t later false
  fit_wrong e =
      let x : StandsIn p pt n t Wrong = subst (StandsIn p pt n t) e st.is in
      record { may = λ q. absurd (false≢true q); is = λ es q w. rw x }

  module _ (e : o ≡ Within) {b : Bool} (eb : TwinIs p later b) where
    inside : StandsIn p pt n t Within
    inside = subst (StandsIn p pt n t) e st.is

    there : (es : Tree) → later ≡ some es → well_past n t es ≡ true → among p (names_of es) ≡ b
    there es q w =
        let x = inside in
        let v : well_after (as_kind t n) es ≡ true = past_after n t es w in
        let l : cmp p (as_kind t n) ≡ Ordering.lt = ap (λ (z : Bool). cmp (as_kind z p) (as_kind t n)) (sym x.1) ∙ besides_less p pt n t x.0 in
        early p es (after_less p (as_kind t n) es l (after_all (as_kind t n) es v)) (proper (as_kind t n) es v) ∙ sym (eb.is es q)

    -- so the search decides
    pub fit_within : FitsIs p pt n t later (not b)
    fit_within = record { may = λ q. inside.0; is = λ es q w. rw (inside.0, there es q w) }

past_cons : (n b : ℕ) (p : Bytes) (pt : Bool) (e : Entry) (es : Tree) →
    check_past n b p pt (some (e ∷ es)) ≡ cond (besides p pt e.name (is_tree e.mode) && not (among p (names_of es))) (check_past (n + 1) (b + length e.name) e.name (is_tree e.mode) (some es)) none
unfolding check_past well_past well_after besides
past_cons n b p pt e es = go (same p e.name) (among p (names_of es)) (good_name e.name) (is_less (cmp (as_kind pt p) (key e))) (not (among e.name (names_of es)) && well_after (key e) es)
  where
    counts : n + suc (length es) ≡ n + 1 + length es
    counts = omega arith

    bytes : b + (length e.name + name_bytes es) ≡ b + length e.name + name_bytes es
    bytes = omega arith

    go : (s a g l w : Bool) → ◌≡◌ {A = Option TreeSize} (cond (not (s || a) && (g && (l && w))) (some (record { entries = n + suc (length es); bytes = b + (length e.name + name_bytes es) })) none)
        (cond ((g && (not s && l)) && not a) (cond w (some (record { entries = n + 1 + length es; bytes = b + length e.name + name_bytes es })) none) none)
    go true a true l w = refl
    go true a false l w = refl
    go false true true true w = refl
    go false true true false w = refl
    go false true false l w = refl
    go false false true true true = ap (λ (m : ℕ). some (record { entries = m; bytes = b + (length e.name + name_bytes es) })) counts ∙ ap (λ (m : ℕ). some (record { entries = n + 1 + length es; bytes = m })) bytes
    go false false true true false = refl
    go false false true false w = refl
    go false false false l w = refl

-- a test that is right where what follows is well formed does as well as one that is always right
past_step : (n b : ℕ) (p : Bytes) (pt : Bool) (e : Entry) (later : Option Tree) (ok : Bool) → FitsIs p pt e.name (is_tree e.mode) later ok →
    check_past n b p pt (more e later) ≡ cond ok (check_past (n + 1) (b + length e.name) e.name (is_tree e.mode) later) none
unfolding check_past
past_step n b p pt e none ok f = no ok
  where
    no : (x : Bool) → ◌≡◌ {A = Option TreeSize} none (cond x none none)
    no true = refl
    no false = refl
past_step n b p pt e (some es) ok f = past_cons n b p pt e es ∙ go (well_past e.name (is_tree e.mode) es) refl
  where
    no : (x y : Bool) → ◌≡◌ {A = Option TreeSize} (cond x none none) (cond y none none)
    no true true = refl
    no true false = refl
    no false true = refl
    no false false = refl

    go : (z : Bool) → well_past e.name (is_tree e.mode) es ≡ z →
        cond (besides p pt e.name (is_tree e.mode) && not (among p (names_of es))) (check_past (n + 1) (b + length e.name) e.name (is_tree e.mode) (some es)) none
        ≡ cond ok (check_past (n + 1) (b + length e.name) e.name (is_tree e.mode) (some es)) none
    go true h = ap (λ (x : Bool). cond x (check_past (n + 1) (b + length e.name) e.name (is_tree e.mode) (some es)) none) (sym (f.is es refl h))
    go false h = rw h (no (besides p pt e.name (is_tree e.mode) && not (among p (names_of es))) ok)

-- no good name is empty
none_empty : (es : Tree) → Proper es → among [] (names_of es) ≡ false
unfolding good_name
none_empty [] h = refl
none_empty (e ∷ es) h = go (same [] e.name) refl (none_empty es h.2)
  where
    go : (t : Bool) → same [] e.name ≡ t → among [] (names_of es) ≡ false → (t || among [] (names_of es)) ≡ false
    go true q ih = absurd (false≢true (ap good_name (same_eq [] e.name q) ∙ h.0))
    go false q ih = ih

-- any good name may stand first
pub fit_first : {p : Bytes} {pt : Bool} {n : Bytes} {t : Bool} {later : Option Tree} → p ≡ [] → pt ≡ false → good_name n ≡ true → FitsIs p pt n t later true
fit_first {p} {pt} {n} {t} e f g =
    let x : besides p pt n t ≡ true = ap (λ (l : Bytes). besides l pt n t) e ∙ ap (λ (b : Bool). besides [] b n t) f ∙ first_besides n t g in
    record {
      may = λ q. x;
      is = λ es q w.
          let a : among p (names_of es) ≡ false = ap (λ (l : Bytes). among l (names_of es)) e ∙ none_empty es (proper (as_kind t n) es (past_after n t es w)) in
          rw (x, a);
    }

past_nothing : (es : Tree) → well_after [] es ≡ well_past [] false es
unfolding well_past
past_nothing es = go (well_after [] es) refl
  where
    go : (t : Bool) → well_after [] es ≡ t → well_after [] es ≡ (not (among [] (names_of es)) && well_after [] es)
    go true h = rw (none_empty es (proper [] es h))
    go false h = h ∙ sym (rw h (and_false (not (among [] (names_of es)))))

check_counts : (w : ℕ) (t : Option Tree) → ((ts : Tree) → t ≡ some ts → Wide w ts) → size_of (if_good w t) ≡ check_past 0 0 [] false t
unfolding check_past
check_counts w none h = refl
check_counts w (some t) h = ap (λ (b : Bool). size_of (cond b (some t) none)) (well_is w t (h t refl) ∙ past_nothing t) ∙ counts (well_past [] false t)
  where
    counts : (b : Bool) → size_of (cond b (some t) none) ≡ cond b (some (record { entries = 0 + length t; bytes = 0 + name_bytes t })) none
    counts true = simp zero-add
    counts false = refl

pub check_begin : {whole : Option TreeSize} {here : Option Tree} {prev : Bytes} (w len : ℕ) → whole ≡ size_of (if_good w here) → ((ts : Tree) → here ≡ some ts → Wide w ts) → prev ≡ [] → Checking whole len here 0 0 0 prev false
unfolding plain
check_begin {whole} {here} w len e h p = record { within = omega arith; few = omega arith; short = omega arith; clear = rw p; rest = rw p (e ∙ check_counts w here h) }

module _ {whole : Option TreeSize} {len : ℕ} {here : Option Tree} {at n b : ℕ} {prev : Bytes} {tree : Bool} (s : Checking whole len here at n b prev tree) where
  pub check_end : here ≡ some [] → some (record { entries = n; bytes = b }) ≡ whole
  unfolding check_past well_past well_after
  check_end h = sym (s.rest ∙ rw h (simp add-zero))

  pub check_damaged : here ≡ none → none ≡ whole
  unfolding check_past
  check_damaged h = sym (s.rest ∙ rw h)

  module _ {e : Entry} {there : Option Tree} (eh : Begins here e there) {name : Bytes} {nameTree ok : Bool} (en : name ≡ e.name) (et : nameTree ≡ is_tree e.mode) (eo : FitsIs prev tree name nameTree there ok) where
    step : whole ≡ cond ok (check_past (n + 1) (b + length name) name nameTree there) none
    step =
        let f : FitsIs prev tree e.name (is_tree e.mode) there ok = rw (en, et) at eo in
        s.rest ∙ ap (check_past n b prev tree) eh.is ∙ past_step n b prev tree e there ok f ∙ rw (← en, ← et)

    pub check_broken : ok ≡ false → none ≡ whole
    check_broken f = sym (step ∙ rw f)

    pub check_more : {next : ℕ} → at + length name < next → next ≤ len → ok ≡ true → Checking whole len there next (n + 1) (b + length name) name nameTree
    check_more r i f = record {
      within = i;
      few = omega arith;
      short = omega arith;
      clear = good_plain name (besides_good prev tree name nameTree (eo.may f));
      rest = step ∙ rw f;
    }
