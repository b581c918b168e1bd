-- A check that goes on over entries whose names come after the one before by eight bytes: such an entry fits whatever follows it. Assumes nothing.
use Prim.Native.Nat.{ℕ, ◌+◌, ◌≤◌, ◌<◌}
use mathlib.Core.Path.{◌≡◌, refl, sym, ap, ◌∙◌, subst}
use mathlib.Core.List.{[]}
use mathlib.Core.Bool.{Bool, true, false}
use mathlib.Core.Option.{some, none}
use native.Mathlib.Omega.{arith}
use lib.Dec.{eqb, ltb}
use lib.ListN.{length, take, drop, get_or}
use lib.Seq.{take-take}
use borrow.Author.Tests.{ne_eqb, ltb-true, ltb-false}
use Rattle.model.specs.Bytes.{Bytes}
use Rattle.model.specs.Tree.{is_tree, good_name}
use Rattle.names.specs.Check.{size_of, Lower, plain, FitsIs, Checking}
use Rattle.names.specs.Eight.{number, bytes_of, LowAt}
use Rattle.names_compact.specs.Judge.{end_at, entry_held, held_at, compact_tree, Head, name_before, tree_before, Reached}
use Rattle.names.proofs.EightLaws.{lower_first, lower_at, number_same, eight_more}
use Rattle.names.proofs.FitLaws.{fit_apart, fit_first, check_begin, check_more, check_broken}
use Rattle.names_compact.proofs.JudgeLaws.{ends, compact_is, held_packs, whole_begins, whole_reach}
use Rattle.names.proofs.StandingLaws.{good_is, lower_apart}

-- two names begin with i bytes alike
pub record Together (a b : Bytes) (i : ℕ) : Type 0 where
  pub same : take i a ≡ take i b

module _ {a b : Bytes} {i : ℕ} (at : Together a b i) where
  pub together_to : (k : ℕ) → k ≤ i → take k a ≡ take k b
  together_to k h = sym (take-take k i a h) ∙ ap (take k) at.same ∙ take-take k i b h

  pub together_more : {x y : ℕ} → LowAt a i x → LowAt b i y → x ≡ y → Together a b (i + 8)
  together_more u v e = record { same = eight_more i a b at.same (sym u.back ∙ ap (bytes_of 8) e ∙ v.back) }

-- two names that have eight bytes
module _ {p n : Bytes} {x y : ℕ} (hp : Head p x) (hn : Head n y) (low : (i : ℕ) → get_or n i 0 < 256) where
  pub ahead_first : x < y → Lower p n
  ahead_first l = lower_first 8 0 p n hp.long hn.long low (omega (arith, hp.is, hn.is))

  pub heads_alike : ((i : ℕ) → get_or p i 0 < 256) → x ≡ y → take 8 p ≡ take 8 n
  heads_alike low_p e = number_same 8 0 p n hp.long hn.long low_p low (sym hp.is ∙ e ∙ hn.is)

  pub ahead_past : (k : ℕ) → k + 8 ≤ length p → length p ≡ length n → take k p ≡ take k n → number 0 (take 8 (drop k p)) < number 0 (take 8 (drop k n)) → Lower p n
  ahead_past k h e q t = lower_at k p n h (omega arith) low q t

-- a check of the bytes of a tree: it begins, and an entry more is read that may follow
pub reach_begin : (b : Bytes) (w : ℕ) (prev : Bytes) → prev ≡ [] → Checking (size_of (compact_tree w b)) (length b) (held_at b w 0) 0 0 0 prev false
reach_begin b w prev e = check_begin w (length b) (ap size_of (compact_is w b)) (λ ts q. (held_packs b w ts q).1) e

pub size_same : {b d : Bytes} {w v : ℕ} → b ≡ d → w ≡ v → size_of (compact_tree w b) ≡ size_of (compact_tree v d)
size_same e f = rw (e, f)

module _ (b : Bytes) (w : ℕ) {at n k : ℕ} {prev name : Bytes} {prevTree tree : Bool} (s : Checking (size_of (compact_tree w b)) (length b) (held_at b w at) at n k prev prevTree)
    {next : ℕ} (e : end_at b w at ≡ some next) (en : name ≡ (entry_held b w at).name) (et : tree ≡ is_tree (entry_held b w at).mode) where
  module _ {ok : Bool} (fits : FitsIs prev prevTree name tree (held_at b w next) ok) where
    pub reach_more : ok ≡ true → Checking (size_of (compact_tree w b)) (length b) (held_at b w next) next (n + 1) (k + length name) name tree
    reach_more o = check_more s (whole_begins b w at e) en et fits (whole_reach b w at e en) (ends b w at e).inside o

    pub reach_broken : ok ≡ false → none ≡ size_of (compact_tree w b)
    reach_broken o = check_broken s (whole_begins b w at e) en et fits o

  -- a name that comes after the one before by a lower byte
  pub reach_ahead : length name ≤ 255 → 8 ≤ length name → Lower prev name → plain name ≡ true →
      Checking (size_of (compact_tree w b)) (length b) (held_at b w next) next (n + 1) (k + length name) name tree
  reach_ahead few more l p =
      let good : good_name name ≡ true = good_is name (λ z. omega arith) few ∙ p in
      reach_more (fit_apart (record { is = lower_apart l s.clear good prevTree tree }) refl) refl

-- The entry before a place.
module _ (b : Bytes) (w prev at : ℕ) where
  pub before_none : at ≡ 0 → (name_before b w prev at ≡ []) × (tree_before b prev at ≡ false)
  unfolding name_before tree_before
  before_none h = (rw h, rw h)

  pub before_some : 0 < at → (name_before b w prev at ≡ (entry_held b w prev).name) × (tree_before b prev at ≡ is_tree (entry_held b w prev).mode)
  unfolding name_before tree_before
  before_some h =
      let e : eqb at 0 ≡ false = ne_eqb at 0 (λ q. omega (arith, h, q)) in
      (rw e, rw e)

-- the same of a check that carries places: it begins, and an entry more is read that may follow
pub reached_begin : (b : Bytes) (w : ℕ) → Reached b w 0 0 0 0
reached_begin b w =
    let x = before_none b w 0 0 refl in
    record {
      back = λ h. absurd (omega (arith, h));
      checking = rw x.1 (reach_begin b w (name_before b w 0 0) x.0);
    }

module _ (b : Bytes) (w : ℕ) {at prev n k : ℕ} (s : Reached b w at prev n k) {next : ℕ} (e : end_at b w at ≡ some next)
    {name : Bytes} {tree : Bool} (en : name ≡ (entry_held b w at).name) (et : tree ≡ is_tree (entry_held b w at).mode) where
  past : Checking (size_of (compact_tree w b)) (length b) (held_at b w next) next (n + 1) (k + length name) name tree → Reached b w next at (n + 1) (k + length name)
  past c =
      let x = before_some b w at next (omega (arith, (ends b w at e).is)) in
      record { back = λ h. e; checking = rw (x.0 ∙ sym en, x.1 ∙ sym et) c }

  module _ {p : Bytes} {pt : Bool} (ep : p ≡ name_before b w prev at) (ept : pt ≡ tree_before b prev at) {ok : Bool} (fits : FitsIs p pt name tree (held_at b w next) ok) where
    fits_here : FitsIs (name_before b w prev at) (tree_before b prev at) name tree (held_at b w next) ok
    fits_here = subst (λ (x : Bytes). FitsIs x (tree_before b prev at) name tree (held_at b w next) ok) ep (subst (λ (x : Bool). FitsIs p x name tree (held_at b w next) ok) ept fits)

    pub reached_more : ok ≡ true → Reached b w next at (n + 1) (k + length name)
    reached_more o = past (reach_more b w s.checking e en et fits_here o)

    pub reached_broken : ok ≡ false → none ≡ size_of (compact_tree w b)
    reached_broken o = reach_broken b w s.checking e en et fits_here o

  -- a name that comes after the one before by a lower byte, or stands first
  pub reached_ahead : length name ≤ 255 → 8 ≤ length name → (0 < at → Lower (name_before b w prev at) name) → plain name ≡ true → Reached b w next at (n + 1) (k + length name)
  reached_ahead few more l p = past (go (ltb 0 at) refl)
    where
      good : good_name name ≡ true
      good = good_is name (λ z. omega (arith, z, more)) few ∙ p

      go : (t : Bool) → ltb 0 at ≡ t → Checking (size_of (compact_tree w b)) (length b) (held_at b w next) next (n + 1) (k + length name) name tree
      go true q = reach_ahead b w s.checking e en et few more (l (ltb-true 0 at q)) p
      go false q =
          let x = before_none b w prev at (omega (arith, ltb-false 0 at q)) in
          reach_more b w s.checking e en et (fit_first x.0 x.1 good) refl
