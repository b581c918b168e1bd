-- What each step of a write makes of the taken trees: a slot moves within the list of those taken. Assumes nothing.
use mathlib.Core.Path.{◌≡◌, refl, sym, ap, ap₂, ◌∙◌, subst}
use mathlib.Core.Bool.{Bool, true, false, not, ◌&&◌}
use mathlib.Core.List.{List, [], ◌∷◌, ◌++◌, map, reverse, append_assoc, reverse-cons}
use Prim.Native.Nat.{ℕ, zero, suc, ◌+◌, ◌-◌, ◌≤◌, ◌<◌}
use native.Mathlib.Omega.{arith}
use native.Mathlib.Numerals.{add-one}
use lib.ListN.{length, take, drop, get_or, set, length-set, length-append, length-drop, drop_of_length-le}
use lib.Seq.{length-take-le, take-suc, drop-cons, take-set-le, drop-set-lt, take-suc-set, get_or-set_same}
use Rattle.model.specs.Bytes.{has}
use Rattle.model.specs.Map.{del}
use Rattle.model.specs.Tree.{distinct}
use Rattle.model.specs.Editor.{Held, at, Cache, entry_count, name_count}
use Rattle.model.specs.Order.{All}
use Rattle.model.specs.Editor.{Editor as Model}
use Rattle.model.specs.Write.{Going}
use Rattle.model.specs.Write.{write_of as modelWrite}
use Rattle.model.proofs.Basics.{all_map}
use Rattle.store_slots.proofs.Marked.{marked_other}
use Rattle.store_runs.specs.Digits.{digits}
use Rattle.store_runs.specs.Runs.{cut, Sound, total}
use Rattle.store_runs.proofs.DigitLaws.{length_digits}
use Rattle.store_runs.proofs.RunLaws.{length_cut}
use Rattle.store_slots.specs.View.{slots_of, gather, Laid, Used, marked, held_at, cached_of, aside_of, stacked_of, write_of, Opened, Ordered}
use Rattle.store_slots.specs.declared.Record.{Record}
use Rattle.store_taken.specs.Taken.{going_of, stacked_on, kept_on, taken_off, writing_of, Marks, all_taken, Between, Cached, SameSlots}
use Rattle.store_taken.proofs.Marking.{marked_mid, different_mid, all_front, all_mid, Low, not_marked, Unset, total_marked, total_below}
use Rattle.store_taken.proofs.Shown.{hide_view, marked_apart}

-- ---- the record's other fields

pub used_same : (r q : Record) → q.free ≡ r.free → (k : ℕ) → Used r k → Used q k
used_same r q e k u = record { low = u.low; used = ap (λ (x : ℕ). get_or (digits 64 x) k 0) e ∙ u.used }

-- the layout's rules do not speak of the write
pub laid_same : (w : ℕ) (r q : Record) (plens paths tlens trees : List ℕ) → SameSlots r q → Laid w r plens paths tlens trees → Laid w q plens paths tlens trees
laid_same w r q plens paths tlens trees s L =
    record {
      plens_64 = L.plens_64;
      tlens_64 = L.tlens_64;
      paths_room = L.paths_room;
      trees_room = L.trees_room;
      paths_sound = subst (Sound plens paths) (sym s.paths) L.paths_sound;
      trees_sound = subst (Sound tlens trees) (sym s.trees) L.trees_sound;
      empty = λ k h n. L.empty k h (λ z. n (ap (λ (x : ℕ). get_or (digits 64 x) k 0) s.free ∙ z));
      packed = L.packed;
      well = L.well;
      apart = ap (λ (x : ℕ). distinct (map at (slots_of w (digits 64 x) (cut plens paths) (cut tlens trees)))) s.free ∙ L.apart;
      entries = s.entries ∙ L.entries ∙ ap (λ (x : ℕ). count_e x) (sym s.free);
      names = s.names ∙ L.names ∙ ap (λ (x : ℕ). count_n x) (sym s.free);
    }
  where
    count_e : ℕ → ℕ
    count_e x = entry_count (gather (slots_of w (digits 64 x) (cut plens paths) (cut tlens trees)))

    count_n : ℕ → ℕ
    count_n x = name_count (gather (slots_of w (digits 64 x) (cut plens paths) (cut tlens trees)))

-- ---- the marked slots

pub marks_front : (r : Record) (a : List ℕ) (k : ℕ) (b : List ℕ) → Marks r (a ++ (k ∷ b)) → Marks r (k ∷ (a ++ b))
unfolding marked
marks_front r a k b m = record {
  used = all_front (Used r) a k b m.used;
  apart = sym (different_mid a k b) ∙ m.apart;
  hidden = m.hidden ∙ marked_mid (digits 64 r.free) a k b;
}

pub marks_mid : (r : Record) (a : List ℕ) (k : ℕ) (b : List ℕ) → Marks r (k ∷ (a ++ b)) → Marks r (a ++ (k ∷ b))
unfolding marked
marks_mid r a k b m = record {
  used = all_mid (Used r) a k b m.used;
  apart = different_mid a k b ∙ m.apart;
  hidden = m.hidden ∙ sym (marked_mid (digits 64 r.free) a k b);
}

-- the same slots under another record
pub marks_same : (r q : Record) (ks ls : List ℕ) → q.free ≡ r.free → q.hidden ≡ r.hidden → ls ≡ ks → Marks r ks → Marks q ls
marks_same r q ks ls ef eh el m = subst (Marks q) (sym el) (record {
  used = all_map (Used r) (Used q) (used_same r q ef) ks m.used;
  apart = m.apart;
  hidden = ap (digits 64) eh ∙ m.hidden ∙ ap (λ (x : ℕ). marked ks (digits 64 x)) (sym ef);
})

pub low_used : (r : Record) (ks : List ℕ) → All (Used r) ks → All (Low (digits 64 r.free)) ks
low_used r ks a = all_map (Used r) (Low (digits 64 r.free)) (λ k u. omega (arith, u.low, length_digits 64 r.free)) ks a

-- a cached slot is used and none of those taken
pub cached_used : (r : Record) (ks : List ℕ) → Marks r ks → (k : ℕ) → Cached r k → Used r k × (has k ks ≡ false)
cached_used r ks m k c =
    let l = length_digits 64 r.free in
    let n = not_marked ks (digits 64 r.free) k (omega (arith, l, c.low)) (ap (λ (x : List ℕ). get_or x k 0) (sym m.hidden) ∙ c.shown) in
    (record { low = c.low; used = sym (marked_other k ks (digits 64 r.free) n) ∙ ap (λ (x : List ℕ). get_or x k 0) (sym m.hidden) ∙ c.shown }, n)

-- one more is marked
pub marks_more : (r q : Record) (ks : List ℕ) (k : ℕ) → Marks r ks → Used r k → has k ks ≡ false → q.free ≡ r.free → digits 64 q.hidden ≡ set (digits 64 r.hidden) k 1 → Marks q (k ∷ ks)
unfolding marked
marks_more r q ks k m u n ef eh = record {
  used = (used_same r q ef k u, all_map (Used r) (Used q) (used_same r q ef) ks m.used);
  apart = ap₂ (λ (x y : Bool). not x && y) n m.apart;
  hidden = eh ∙ ap (λ (x : List ℕ). set x k 1) m.hidden ∙ ap (λ (x : ℕ). set (marked ks (digits 64 x)) k 1) (sym ef);
}

-- while a slot is cached, fewer than all are taken
pub marks_room : (r : Record) (ks : List ℕ) → Marks r ks → (k : ℕ) → Cached r k → length ks < 64
marks_room r ks m k c =
    let u : All (Unset (digits 64 r.free)) ks = all_map (Used r) (Unset (digits 64 r.free)) (λ j v. (omega (arith, v.low, length_digits 64 r.free), v.used)) ks m.used in
    omega (arith, total_marked ks (digits 64 r.free) u m.apart, ap total m.hidden, total_below 64 r.hidden k c.low c.shown)

-- ---- the table

length_taken : (r : Record) (order hand : List ℕ) → Between r order hand → length (all_taken r order hand) ≡ r.aside + r.stacked + length hand
length_taken r order hand b =
    omega (
      arith,
      length-append hand (take r.aside order ++ drop (64 - r.stacked) order),
      length-append (take r.aside order) (drop (64 - r.stacked) order),
      length-take-le r.aside order (omega (arith, b.room, b.order_64)),
      length-drop (64 - r.stacked) order,
      b.room,
      b.order_64,
    )

pub room_more : (r : Record) (order hand : List ℕ) → Between r order hand → (k : ℕ) → Cached r k → r.aside + r.stacked + length hand < 64
room_more r order hand b k c = omega (arith, length_taken r order hand b, marks_room r (all_taken r order hand) b.marks k c)

-- the back of the table with one more, and one fewer
pub back_more : (order : List ℕ) (n k : ℕ) → length order ≡ 64 → n < 64 → drop (64 - (n + 1)) (set order (64 - (n + 1)) k) ≡ k ∷ drop (64 - n) order
back_more order n k l h =
    let i : 64 - (n + 1) < length (set order (64 - (n + 1)) k) = omega (arith, length-set order (64 - (n + 1)) k, l) in
    let e : suc (64 - (n + 1)) ≡ 64 - n = omega arith in
    drop-cons (set order (64 - (n + 1)) k) (64 - (n + 1)) 0 i
    ∙ ap₂ (λ (x : ℕ) (y : List ℕ). x ∷ y) (get_or-set_same order (64 - (n + 1)) k 0 (omega (arith, l)))
    (drop-set-lt (suc (64 - (n + 1))) order (64 - (n + 1)) k (omega arith) ∙ ap (λ (x : ℕ). drop x order) e)

pub back_less : (order : List ℕ) (n : ℕ) → length order ≡ 64 → n ≤ 64 → 0 < n → drop (64 - n) order ≡ get_or order (64 - n) 0 ∷ drop (64 - (n - 1)) order
back_less order n l h p =
    let e : suc (64 - n) ≡ 64 - (n - 1) = omega arith in
    drop-cons order (64 - n) 0 (omega (arith, l)) ∙ ap (λ (x : ℕ). get_or order (64 - n) 0 ∷ drop x order) e

-- the front of the table with one fewer
pub front_less : (order : List ℕ) (n : ℕ) → length order ≡ 64 → n ≤ 64 → 0 < n → take n order ≡ take (n - 1) order ++ (get_or order (n - 1) 0 ∷ [])
front_less order n l h p =
    let e : n ≡ suc (n - 1) = omega arith in
    ap (λ (x : ℕ). take x order) e ∙ take-suc order (n - 1) 0 (omega (arith, l))

map_append : (f : ℕ → Held) (a b : List ℕ) → map f (a ++ b) ≡ map f a ++ map f b
map_append f [] b = refl
map_append f (x ∷ a) b = ap (λ (m : List Held). f x ∷ m) (map_append f a b)

reverse_snoc : (l : List Held) (h : Held) → reverse (l ++ (h ∷ [])) ≡ h ∷ reverse l
reverse_snoc [] h = refl
reverse_snoc (x ∷ l) h =
    reverse-cons x (l ++ (h ∷ [])) ∙ ap (λ (m : List Held). m ++ (x ∷ [])) (reverse_snoc l h) ∙ ap (λ (m : List Held). h ∷ m) (sym (reverse-cons x l))

-- the latest set aside is the first of those kept
pub kept_more : (f : ℕ → Held) (a : List ℕ) (k : ℕ) → reverse (map f (a ++ (k ∷ []))) ≡ f k ∷ reverse (map f a)
kept_more f a k = ap reverse (map_append f a (k ∷ [])) ∙ reverse_snoc (map f a) (f k)

-- ---- the steps

module _ (r : Record) (order hand : List ℕ) (b : Between r order hand) where
  abbrev A : List ℕ
  A = take r.aside order

  abbrev S : List ℕ
  S = drop (64 - r.stacked) order

  -- the cache is in slots at different paths
  pub shown_apart : (w : ℕ) (plens paths tlens trees : List ℕ) → Laid w r plens paths tlens trees → distinct (map at (slots_of w (digits 64 r.hidden) (cut plens paths) (cut tlens trees))) ≡ true
  shown_apart w plens paths tlens trees L =
      let l = length_digits 64 r.free in
      ap (λ (x : List ℕ). distinct (map at (slots_of w x (cut plens paths) (cut tlens trees)))) b.marks.hidden
      ∙ marked_apart w (all_taken r order hand) (digits 64 r.free) (cut plens paths) (cut tlens trees) (length_cut plens paths ∙ L.plens_64 ∙ sym l) (length_cut tlens trees ∙ L.tlens_64 ∙ sym l)
      (low_used r (all_taken r order hand) b.marks.used) L.apart

  -- a cached slot is stacked
  module _ (k : ℕ) (c : Cached r k) (q : Record) (ef : q.free ≡ r.free) (eh : digits 64 q.hidden ≡ set (digits 64 r.hidden) k 1) (eo : q.«open» ≡ r.«open») (ea : q.aside ≡ r.aside) (es : q.stacked ≡ r.stacked + 1) where
    abbrev order' : List ℕ
    order' = set order (64 - (r.stacked + 1)) k

    stack_back : drop (64 - q.stacked) order' ≡ k ∷ S
    stack_back = ap (λ (x : ℕ). drop (64 - x) order') es ∙ back_more order r.stacked k b.order_64 (omega (arith, room_more r order hand b k c))

    stack_front : take q.aside order' ≡ A
    stack_front = ap (λ (x : ℕ). take x order') ea ∙ take-set-le r.aside order (64 - (r.stacked + 1)) k (omega (arith, room_more r order hand b k c))

    pub stack_between : Between q order' hand
    stack_between =
        let m = cached_used r (all_taken r order hand) b.marks k c in
        let n : Marks q (k ∷ ((hand ++ A) ++ S)) = subst (λ (x : List ℕ). Marks q (k ∷ x)) (sym (append_assoc hand A S)) (marks_more r q (all_taken r order hand) k b.marks m.0 m.1 ef eh) in
        record {
          order_64 = length-set order (64 - (r.stacked + 1)) k ∙ b.order_64;
          under_way = λ z. b.under_way (sym eo ∙ z);
          from = omega (arith, eo, b.from);
          room = omega (arith, ea, es, room_more r order hand b k c);
          marks = subst (Marks q) (append_assoc hand A (k ∷ S) ∙ ap₂ (λ (x y : List ℕ). hand ++ (x ++ y)) (sym stack_front) (sym stack_back)) (marks_mid q (hand ++ A) k S n);
        }

    pub stack_going : (w : ℕ) (plens paths tlens trees : List ℕ) → Laid w r plens paths tlens trees →
        going_of w q plens paths tlens trees order' ≡ stacked_on (held_at w plens paths tlens trees k) (taken_off (held_at w plens paths tlens trees k) (going_of w r plens paths tlens trees order))
    stack_going w plens paths tlens trees L =
        let l = length_digits 64 r.hidden in
        let x : cached_of w q plens paths tlens trees ≡ del at (get_or (cut plens paths) k []) (cached_of w r plens paths tlens trees) =
        ap (λ (y : List ℕ). gather (slots_of w y (cut plens paths) (cut tlens trees))) eh
        ∙ hide_view k w (digits 64 r.hidden) (cut plens paths) (cut tlens trees) (omega (arith, l, c.low)) (length_cut plens paths ∙ L.plens_64 ∙ sym l) (length_cut tlens trees ∙ L.tlens_64 ∙ sym l) c.shown
        (shown_apart w plens paths tlens trees L) in
        ap₂ (λ (y : Cache) (z : List Held). record { cache = y; stack = z; kept = aside_of w q plens paths tlens trees order' }) x (ap (map (held_at w plens paths tlens trees)) stack_back)
        ∙ ap (λ (y : List ℕ). record { cache = del at (get_or (cut plens paths) k []) (cached_of w r plens paths tlens trees); stack = map (held_at w plens paths tlens trees) (k ∷ S); kept = reverse (map (held_at w plens paths tlens trees) y) }) stack_front

-- what the record of a step that moves a slot says
pub record Moved (r q : Record) (n m : ℕ) : Type 0 where
  pub free : q.free ≡ r.free
  pub hidden : q.hidden ≡ r.hidden
  pub «open» : q.«open» ≡ r.«open»
  pub aside : q.aside ≡ n
  pub stacked : q.stacked ≡ m

-- nothing is in hand: the top of the stack or the latest set aside is taken
module _ (r : Record) (order : List ℕ) (b : Between r order []) where
  module _ (q : Record) (m : Moved r q r.aside (r.stacked - 1)) (p : 0 < r.stacked) where
    abbrev top : ℕ
    top = get_or order (64 - r.stacked) 0

    top_back : drop (64 - r.stacked) order ≡ top ∷ drop (64 - q.stacked) order
    top_back = back_less order r.stacked b.order_64 (omega (arith, b.room)) p ∙ ap (λ (x : ℕ). top ∷ drop (64 - x) order) (sym m.stacked)

    pub pop_between : Between q order (top ∷ [])
    pop_between =
        let n : Marks r (take r.aside order ++ (top ∷ drop (64 - q.stacked) order)) = subst (λ (x : List ℕ). Marks r (take r.aside order ++ x)) top_back b.marks in
        record {
          order_64 = b.order_64;
          under_way = λ z. b.under_way (sym m.«open» ∙ z);
          from = omega (arith, m.«open», b.from);
          room = omega (arith, m.aside, m.stacked, b.room);
          marks = marks_same r q (top ∷ (take r.aside order ++ drop (64 - q.stacked) order)) (all_taken q order (top ∷ [])) m.free m.hidden
              (ap (λ (x : ℕ). top ∷ (take x order ++ drop (64 - q.stacked) order)) m.aside) (marks_front r (take r.aside order) top (drop (64 - q.stacked) order) n);
        }

    pub pop_going : (w : ℕ) (plens paths tlens trees : List ℕ) → going_of w r plens paths tlens trees order ≡ stacked_on (held_at w plens paths tlens trees top) (going_of w q plens paths tlens trees order)
    pop_going w plens paths tlens trees =
        ap₂ (λ (x y : ℕ). record { cache = gather (slots_of w (digits 64 x) (cut plens paths) (cut tlens trees)); stack = stacked_of w r plens paths tlens trees order; kept = reverse (map (held_at w plens paths tlens trees) (take y order)) }) (sym m.hidden) (sym m.aside)
        ∙ ap (λ (x : List ℕ). record { cache = cached_of w q plens paths tlens trees; stack = map (held_at w plens paths tlens trees) x; kept = aside_of w q plens paths tlens trees order }) top_back

  module _ (q : Record) (m : Moved r q (r.aside - 1) r.stacked) (p : 0 < r.aside) where
    abbrev last : ℕ
    last = get_or order (r.aside - 1) 0

    last_front : take r.aside order ≡ take q.aside order ++ (last ∷ [])
    last_front = front_less order r.aside b.order_64 (omega (arith, b.room)) p ∙ ap (λ (x : ℕ). take x order ++ (last ∷ [])) (sym m.aside)

    pub latest_between : Between q order (last ∷ [])
    latest_between =
        let S : List ℕ = drop (64 - r.stacked) order in
        let n : Marks r (take q.aside order ++ (last ∷ S)) = subst (Marks r) (ap (λ (x : List ℕ). x ++ S) last_front ∙ append_assoc (take q.aside order) (last ∷ []) S) b.marks in
        record {
          order_64 = b.order_64;
          under_way = λ z. b.under_way (sym m.«open» ∙ z);
          from = omega (arith, m.«open», b.from);
          room = omega (arith, m.aside, m.stacked, b.room);
          marks = marks_same r q (last ∷ (take q.aside order ++ S)) (all_taken q order (last ∷ [])) m.free m.hidden
              (ap (λ (x : ℕ). last ∷ (take q.aside order ++ drop (64 - x) order)) m.stacked) (marks_front r (take q.aside order) last S n);
        }

    pub latest_going : (w : ℕ) (plens paths tlens trees : List ℕ) → going_of w r plens paths tlens trees order ≡ kept_on (held_at w plens paths tlens trees last) (going_of w q plens paths tlens trees order)
    latest_going w plens paths tlens trees =
        ap₂ (λ (x y : ℕ). record { cache = gather (slots_of w (digits 64 x) (cut plens paths) (cut tlens trees)); stack = map (held_at w plens paths tlens trees) (drop (64 - y) order); kept = aside_of w r plens paths tlens trees order }) (sym m.hidden) (sym m.stacked)
        ∙ ap (λ (x : List Held). record { cache = cached_of w q plens paths tlens trees; stack = stacked_of w q plens paths tlens trees order; kept = x })
        (ap (λ (x : List ℕ). reverse (map (held_at w plens paths tlens trees) x)) last_front ∙ kept_more (held_at w plens paths tlens trees) (take q.aside order) last)

-- the model's editor where a write is open
opened_editor : (n : ℕ) → (n ≡ 0 → ⊥) → (h : Held) (g : Going) → ◌≡◌ {A = Model} (record { cached = g.cache; writing = write_of n h g.kept g.stack }) (writing_of n h g)
unfolding modelWrite
opened_editor zero z h g = absurd (z refl)
opened_editor (suc n) z h g = refl

-- one is in hand: it is set aside, or requested
module _ (r : Record) (order : List ℕ) (k : ℕ) (b : Between r order (k ∷ [])) where
  module _ (q : Record) (m : Moved r q (r.aside + 1) r.stacked) where
    abbrev set_order : List ℕ
    set_order = set order r.aside k

    aside_front : take q.aside set_order ≡ take r.aside order ++ (k ∷ [])
    aside_front = ap (λ (x : ℕ). take x set_order) (m.aside ∙ add-one r.aside) ∙ take-suc-set order r.aside k (omega (arith, b.room, b.order_64))

    aside_back : drop (64 - q.stacked) set_order ≡ drop (64 - r.stacked) order
    aside_back = ap (λ (x : ℕ). drop (64 - x) set_order) m.stacked ∙ drop-set-lt (64 - r.stacked) order r.aside k (omega (arith, b.room))

    pub aside_between : Between q set_order []
    aside_between = record {
      order_64 = length-set order r.aside k ∙ b.order_64;
      under_way = λ z. b.under_way (sym m.«open» ∙ z);
      from = omega (arith, m.«open», b.from);
      room = omega (arith, m.aside, m.stacked, b.room);
      marks = marks_same r q (take r.aside order ++ (k ∷ drop (64 - r.stacked) order)) (all_taken q set_order []) m.free m.hidden
          (ap₂ (λ (x y : List ℕ). x ++ y) aside_front aside_back ∙ append_assoc (take r.aside order) (k ∷ []) (drop (64 - r.stacked) order))
          (marks_mid r (take r.aside order) k (drop (64 - r.stacked) order) b.marks);
    }

    pub aside_going : (w : ℕ) (plens paths tlens trees : List ℕ) → going_of w q plens paths tlens trees set_order ≡ kept_on (held_at w plens paths tlens trees k) (going_of w r plens paths tlens trees order)
    aside_going w plens paths tlens trees =
        ap₂ (λ (x : ℕ) (y : List ℕ). record { cache = gather (slots_of w (digits 64 x) (cut plens paths) (cut tlens trees)); stack = map (held_at w plens paths tlens trees) y; kept = aside_of w q plens paths tlens trees set_order }) m.hidden aside_back
        ∙ ap (λ (x : List Held). record { cache = cached_of w r plens paths tlens trees; stack = stacked_of w r plens paths tlens trees order; kept = x })
        (ap (λ (x : List ℕ). reverse (map (held_at w plens paths tlens trees) x)) aside_front ∙ kept_more (held_at w plens paths tlens trees) (take r.aside order) k)

  -- the open write with this tree requested
  pub ask_opened : (q : Record) → Moved r q r.aside r.stacked → q.asked ≡ k → Opened q order
  ask_opened q m e =
      let n : Marks q (q.asked ∷ (take q.aside order ++ drop (64 - q.stacked) order)) =
      marks_same r q (k ∷ (take r.aside order ++ drop (64 - r.stacked) order)) (q.asked ∷ (take q.aside order ++ drop (64 - q.stacked) order)) m.free m.hidden
      (ap₂ (λ (x y : ℕ). x ∷ (take y order ++ drop (64 - q.stacked) order)) e m.aside ∙ ap (λ (x : ℕ). k ∷ (take r.aside order ++ drop (64 - x) order)) m.stacked) b.marks in
      record { from = omega (arith, m.«open», b.from); room = omega (arith, m.aside, m.stacked, b.room); used = n.used; apart = n.apart; hidden = n.hidden }

  pub ask_ordered : (q : Record) → Moved r q r.aside r.stacked → q.asked ≡ k → Ordered q order
  ask_ordered q m e = record {
    order_64 = b.order_64;
    closed = λ z. absurd (b.under_way (sym m.«open» ∙ z));
    opened = λ n. ask_opened q m e;
  }

  -- the model's editor then
  pub ask_editor : (w : ℕ) (plens paths tlens trees : List ℕ) →
      record { cached = cached_of w r plens paths tlens trees; writing = write_of r.«open» (held_at w plens paths tlens trees k) (aside_of w r plens paths tlens trees order) (stacked_of w r plens paths tlens trees order) }
      ≡ writing_of r.«open» (held_at w plens paths tlens trees k) (going_of w r plens paths tlens trees order)
  ask_editor w plens paths tlens trees = opened_editor r.«open» b.under_way (held_at w plens paths tlens trees k) (going_of w r plens paths tlens trees order)

-- an open write has its requested tree in hand
pub asked_in_hand : (r : Record) (order : List ℕ) → Ordered r order → (r.«open» ≡ 0 → ⊥) → Between r order (r.asked ∷ [])
asked_in_hand r order o n =
    let p = o.opened n in
    record {
      order_64 = o.order_64;
      under_way = n;
      from = p.from;
      room = omega (arith, p.room);
      marks = record { used = p.used; apart = p.apart; hidden = p.hidden };
    }

-- ---- a write is opened

module _ (r : Record) (k : ℕ) (e : r.hidden ≡ r.free) (u : Used r k) (q : Record) (ef : q.free ≡ r.free) (eh : digits 64 q.hidden ≡ set (digits 64 r.hidden) k 1) (ea : q.aside ≡ 0) (es : q.stacked ≡ 0) where
  only : (order : List ℕ) → length order ≡ 64 → all_taken q order (k ∷ []) ≡ k ∷ []
  only order l = ap₂ (λ (x y : ℕ). k ∷ (take x order ++ drop (64 - y) order)) ea es ∙ ap (λ (x : List ℕ). k ∷ x) (drop_of_length-le order {i = 64 - 0} (omega (arith, l)))

  pub open_between : 1 ≤ q.«open» → q.«open» ≤ 2 → (order : List ℕ) → length order ≡ 64 → Between q order (k ∷ [])
  unfolding marked
  open_between low from order l = record {
    order_64 = l;
    under_way = λ z. omega (arith, z, low);
    from = from;
    room = omega (arith, ea, es);
    marks = subst (Marks q) (sym (only order l)) (record {
      used = (used_same r q ef k u, tt);
      apart = refl;
      hidden = eh ∙ ap (λ (x : ℕ). set (digits 64 x) k 1) (e ∙ sym ef);
    });
  }
