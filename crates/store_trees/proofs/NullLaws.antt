-- Laws of null entries: those passed are kept in order at the front, and those that are left stand where they stood. Assumes nothing.
use mathlib.Core.Path.{◌≡◌, refl, sym, ap, ◌∙◌, subst}
use mathlib.Core.Bool.{Bool, true, false}
use mathlib.Core.List.{List, [], ◌∷◌, ◌++◌, append_assoc, append-nil}
use Prim.Native.Nat.compare
use Prim.Native.Nat.{ℕ, zero, suc, ◌+◌, ◌-◌, ◌*◌, ◌≤◌, ◌<◌}
use native.Mathlib.Nat.{add-mul}
use native.Mathlib.Omega.{arith}
use lib.Dec.{eqb}
use lib.ListN.{length, take, drop, get_or, length-append, length-drop, drop_of_length-le}
use lib.Seq.{take_at, drop_at, drop-drop, get_or-drop, length-take-le}
use Rattle.model.specs.Bytes.{Bytes, same}
use Rattle.model.specs.Tree.{Entry, Tree, null, pick_tree, without_id, name_bytes, well_formed}
use Rattle.model.proofs.RawLaws.{well_entries}
use Rattle.model.proofs.WriteKeepsTrees.{well_dropped, names_dropped}
use Rattle.std.specs.List.{list_all}
use Rattle.names.specs.Check.{Wide}
use Rattle.names_compact.specs.Compact.{packed, packed_all, unpack, Run}
use Rattle.names.specs.Splice.{splice}
use Rattle.names_compact.proofs.CompactLaws.{wide_good, packed_length, packed_append, packed_room, packed_one, packed_cons}
use Rattle.names.proofs.WriteLaws.{splice_whole, length_splice}
use Rattle.store_runs.specs.Moves.{part, removed}
use Rattle.store_runs.proofs.MoveLaws.{splice_is}
use Rattle.store_runs.specs.Runs.{total, cut, with_run, run_of, Sound}
use Rattle.store_runs.proofs.FindLaws.{cut_at}
use Rattle.store_runs.proofs.RunLaws.{total_within, splice_view, with_same}
use Rattle.store_slots.specs.View.{Laid, Used, tree_of}
use Rattle.store_slots.specs.declared.Record.{Record}
use Rattle.store_slots.proofs.Changes.{run_length}
use Rattle.store_slots.proofs.Relaid.{entries_in_lem, names_in_lem}
use Rattle.store_entries.specs.Entries.{Kept, Edited}
use Rattle.store_entries.proofs.EditLaws.{edited}
use Rattle.store_trees.proofs.Gaps.{with_twice}
use Rattle.store_trees.specs.Trees.{Fewer}
use Rattle.store_trees.specs.declared.nulls.Left.{Left}

-- ---- the null id

pub all_zero : (id : Bytes) → list_all (λ (b : ℕ). eqb b 0) id ≡ same id (null (length id))
unfolding null
all_zero [] = refl
all_zero (zero ∷ xs) = all_zero xs
all_zero (suc x ∷ xs) = rw (compare.suc-zero x)

-- ---- the entries that are kept

without_append : (i : Bytes) (s t : Tree) → without_id i (s ++ t) ≡ without_id i s ++ without_id i t
without_append i [] t = refl
without_append i (e ∷ es) t = go (same e.id i) (without_append i es t)
  where
    go : (b : Bool) → without_id i (es ++ t) ≡ without_id i es ++ without_id i t → pick_tree b (without_id i (es ++ t)) (e ∷ without_id i (es ++ t)) ≡ pick_tree b (without_id i es) (e ∷ without_id i es) ++ without_id i t
    go true h = h
    go false h = ap (λ (l : Tree). e ∷ l) h

without_gone : (i : Bytes) (s : Tree) (e : Entry) → true ≡ same e.id i → without_id i (s ++ (e ∷ [])) ≡ without_id i s
without_gone i s e h =
    without_append i s (e ∷ []) ∙ ap (λ (b : Bool). without_id i s ++ pick_tree b [] (e ∷ [])) (sym h) ∙ append-nil (without_id i s)

without_kept : (i : Bytes) (s : Tree) (e : Entry) → false ≡ same e.id i → without_id i (s ++ (e ∷ [])) ≡ without_id i s ++ (e ∷ [])
without_kept i s e h = without_append i s (e ∷ []) ∙ ap (λ (b : Bool). without_id i s ++ pick_tree b [] (e ∷ [])) (sym h)

none_packed : packed_all [] ≡ []
unfolding packed_all
none_packed = refl

packed_snoc : (t : Tree) (e : Entry) → packed_all (t ++ (e ∷ [])) ≡ packed_all t ++ packed e
packed_snoc t e = packed_append t (e ∷ []) ∙ ap (λ (l : Bytes). packed_all t ++ l) (packed_one e)

-- of the tree in d₀, which became d, the entries `done` have been passed, of which so many are gone, and `left` stand from i on
pub record Closing (w : ℕ) (d₀ d : Bytes) (i len gone : ℕ) : Type 0 where
  pub done : Tree
  pub left : Tree
  pub whole : unpack w d₀ ≡ done ++ left
  pub wide : Wide w left
  pub place : i ≡ length (packed_all done)
  pub rest : drop i d ≡ packed_all left
  pub front : take len d ≡ packed_all (without_id (null w) done)
  pub size : len ≡ length (packed_all (without_id (null w) done))
  pub fewer : length (without_id (null w) done) + gone ≡ length done
  pub long : length d ≡ length d₀
  pub within : i ≤ length d
  pub low : len ≤ i
  pub few : gone ≤ i

pub close_begin : {w : ℕ} {d : Bytes} → Run w d → Closing w d d 0 0 0
close_begin {w = w} {d = d} r = record {
  done = [];
  left = unpack w d;
  whole = refl;
  wide = wide_good w (unpack w d) r.good;
  place = omega (arith, ap length none_packed);
  rest = r.bytes;
  front = sym none_packed;
  size = omega (arith, ap length none_packed);
  fewer = omega arith;
  long = refl;
  within = omega arith;
  low = omega arith;
  few = omega arith;
}

-- the entry at hand, and those after it
pub record Hand (w : ℕ) (d : Bytes) (i : ℕ) (left : Tree) : Type 0 where
  pub entry : Entry
  pub after : Tree
  pub split : left ≡ entry ∷ after
  pub wide : Wide w after
  pub size : length (packed entry) ≡ 2 + w + length entry.name
  pub bytes : drop i d ≡ packed entry ++ packed_all after
  pub room : i + length (packed entry) ≤ length d
  pub word : get_or d (i + 1) 0 ≡ length entry.name
  pub id : take w (drop (i + 2) d) ≡ entry.id
  pub broad : length entry.id ≡ w

hand_at : (w : ℕ) (d : Bytes) (i : ℕ) (left : Tree) → i ≤ length d → i < length d → Wide w left → drop i d ≡ packed_all left → Hand w d i left
hand_at w d i [] le h u e = absurd (omega (arith, ap length (e ∙ none_packed), length-drop i d))
hand_at w d i (x ∷ xs) le h (q, u) e =
    let b : drop i d ≡ packed x ++ packed_all xs = e ∙ packed_cons x xs in
    let t : drop (i + 2) d ≡ x.id ++ (x.name ++ packed_all xs) = sym (drop-drop 2 i d) ∙ ap (drop 2) b ∙ append_assoc x.id x.name (packed_all xs) in
    record {
      entry = x;
      after = xs;
      split = refl;
      wide = u;
      size = packed_length w x q;
      bytes = b;
      room = omega (arith, ap length b, length-append (packed x) (packed_all xs), length-drop i d);
      word = sym (get_or-drop i d 1 0) ∙ ap (λ (l : Bytes). get_or l 1 0) b;
      id = ap (take w) t ∙ take_at x.id (x.name ++ packed_all xs) w q;
      broad = q;
    }

module _ {w : ℕ} {d₀ d : Bytes} {i len gone : ℕ} (c : Closing w d₀ d i len gone) where
  pub close_end : length d ≤ i → (take len d ≡ packed_all (without_id (null w) (unpack w d₀))) × Fewer w d₀ (length d₀) (record { used = len; gone = gone })
  close_end h =
      let n : c.left ≡ [] = none_left c.left (sym c.rest ∙ drop_of_length-le d h) in
      let e : unpack w d₀ ≡ c.done = c.whole ∙ ap (λ (l : Tree). c.done ++ l) n ∙ append-nil c.done in
      let f = ap (λ (t : Tree). packed_all (without_id (null w) t)) (sym e) in (
        c.front ∙ f,
        record {
          less = omega (arith, c.low, c.within, c.long);
          bytes = omega (arith, c.size, ap length f);
          entries = ap (λ (t : Tree). length (without_id (null w) t) + gone) e ∙ c.fewer ∙ ap length (sym e);
        },
      )
    where
      none_left : (t : Tree) → packed_all t ≡ [] → t ≡ []
      none_left [] q = refl
      none_left (x ∷ xs) q = absurd (omega (arith, ap length (packed_cons x xs), ap length q, length-append (packed x) (packed_all xs)))

  module _ (h : i < length d) where
    pub hand : Hand w d i c.left
    hand = hand_at w d i c.left c.within h c.wide c.rest

    abbrev e : Entry
    e = hand.entry

    one_more : unpack w d₀ ≡ (c.done ++ (hand.entry ∷ [])) ++ hand.after
    one_more = c.whole ∙ ap (λ (l : Tree). c.done ++ l) hand.split ∙ sym (append_assoc c.done (e ∷ []) hand.after)

    passed : length (packed_all (c.done ++ (hand.entry ∷ []))) ≡ i + length (packed hand.entry)
    passed = omega (arith, ap length (packed_snoc c.done e), length-append (packed_all c.done) (packed e), c.place)

    counted : length (c.done ++ (hand.entry ∷ [])) ≡ length c.done + 1
    counted = length-append c.done (e ∷ [])

    beyond : drop (i + length (packed hand.entry)) d ≡ packed_all hand.after
    beyond = sym (drop-drop (length (packed e)) i d) ∙ ap (drop (length (packed e))) hand.bytes ∙ drop_at (packed e) (packed_all hand.after) (length (packed e)) refl

    module _ (j : ℕ) (ej : j ≡ i + length (packed hand.entry)) where
      -- an entry that is left out
      pub close_gone : true ≡ same hand.entry.id (null w) → Closing w d₀ d j len (gone + 1)
      close_gone s =
          let k = without_gone (null w) c.done e s in
          record {
            done = c.done ++ (e ∷ []);
            left = hand.after;
            whole = one_more;
            wide = hand.wide;
            place = ej ∙ sym passed;
            rest = ap (λ (x : ℕ). drop x d) ej ∙ beyond;
            front = c.front ∙ ap packed_all (sym k);
            size = c.size ∙ ap (λ (t : Tree). length (packed_all t)) (sym k);
            fewer = omega (arith, ap length k, c.fewer, counted);
            long = c.long;
            within = omega (arith, ej, hand.room);
            low = omega (arith, ej, c.low);
            few = omega (arith, ej, c.few);
          }

      -- an entry that is kept, moved to those before it
      module _ (d' : Bytes) (m : d' ≡ splice d len (part d i (length (packed hand.entry)))) where
        abbrev p : Bytes
        p = packed e

        moved : d' ≡ (take len d ++ p) ++ drop (len + length p) d
        moved =
            let q : part d i (length p) ≡ p = ap (take (length p)) hand.bytes ∙ take_at p (packed_all hand.after) (length p) refl in
            m ∙ ap (splice d len) q ∙ splice_is d len p ∙ sym (append_assoc (take len d) p (drop (len + length p) d))

        head : length (take len d ++ p) ≡ len + length p
        head = omega (arith, length-append (take len d) p, length-take-le len d (omega (arith, c.low, c.within)))

        same_long : length d' ≡ length d
        same_long = omega (arith, ap length moved, length-append (take len d ++ p) (drop (len + length p) d), head, length-drop (len + length p) d, hand.room, c.low)

        still : drop (i + length (packed hand.entry)) d' ≡ drop (i + length (packed hand.entry)) d
        still =
            let q : len + length p + (i - len) ≡ i + length p = omega (arith, c.low) in
            ap (λ (x : ℕ). drop x d') (sym q) ∙ sym (drop-drop (i - len) (len + length p) d')
            ∙ ap (λ (l : Bytes). drop (i - len) (drop (len + length p) l)) moved
            ∙ ap (drop (i - len)) (drop_at (take len d ++ p) (drop (len + length p) d) (len + length p) head)
            ∙ drop-drop (i - len) (len + length p) d ∙ ap (λ (x : ℕ). drop x d) q

        pub close_kept : false ≡ same hand.entry.id (null w) → Closing w d₀ d' j (len + length (packed hand.entry)) gone
        close_kept s =
            let k = without_kept (null w) c.done e s in
            let kp : packed_all (without_id (null w) (c.done ++ (e ∷ []))) ≡ packed_all (without_id (null w) c.done) ++ p = ap packed_all k ∙ packed_snoc (without_id (null w) c.done) e in
            record {
              done = c.done ++ (e ∷ []);
              left = hand.after;
              whole = one_more;
              wide = hand.wide;
              place = ej ∙ sym passed;
              rest = ap (λ (x : ℕ). drop x d') ej ∙ still ∙ beyond;
              front = ap (take (len + length p)) moved ∙ take_at (take len d ++ p) (drop (len + length p) d) (len + length p) head ∙ ap (λ (l : Bytes). l ++ p) c.front ∙ sym kp;
              size = omega (arith, ap length kp, length-append (packed_all (without_id (null w) c.done)) p, c.size);
              fewer = omega (arith, ap length k, length-append (without_id (null w) c.done) (e ∷ []), c.fewer, counted);
              long = same_long ∙ c.long;
              within = omega (arith, ej, hand.room, same_long);
              low = omega (arith, ej, c.low);
              few = omega (arith, ej, c.few);
            }

-- ---- in a run among others

module _ (w : ℕ) (lens bytes : List ℕ) (used k : ℕ) (ok : Sound lens bytes used) (h : k < length lens) where
  pub run_long : length (run_of lens bytes k) ≡ get_or lens k 0
  run_long = ap length (sym (cut_at lens bytes k h)) ∙ run_length lens bytes used k ok h

  pub run_ends : total (take k lens) + get_or lens k 0 ≤ used
  run_ends = omega (arith, total_within lens k h, ok.sum)

  module _ (d : Bytes) (r : Left) (ld : length d ≡ get_or lens k 0) (F : Fewer w (run_of lens bytes k) (length (run_of lens bytes k)) r) where
    pub left_fits : r.used ≤ get_or lens k 0
    left_fits = omega (arith, F.less, run_long)

    pub closed_fewer : (t gone : ℕ) → t ≡ used - (get_or lens k 0 - r.used) → gone ≡ r.gone → Fewer w (get_or (cut lens bytes) k []) used (record { used = t; gone = gone })
    closed_fewer t gone e g =
        subst (λ (b : Bytes). Fewer w b used (record { used = t; gone = gone })) (sym (cut_at lens bytes k h)) (record {
          less = omega (arith, e);
          bytes = omega (arith, e, F.bytes, run_long, left_fits, run_ends);
          entries = ap (λ (x : ℕ). length (without_id (null w) (unpack w (run_of lens bytes k))) + x) g ∙ F.entries;
        })

    module _ (bytes₁ : List ℕ) (e : bytes₁ ≡ splice bytes (total (take k lens)) d) where
      pub back_sound : Sound lens bytes₁ used
      back_sound = record { sum = ok.sum; fits = omega (arith, ap length e, length_splice bytes (total (take k lens)) d (omega (arith, ld, run_ends, ok.fits)), ok.fits) }

      pub closed_view : take r.used d ≡ packed_all (without_id (null w) (unpack w (run_of lens bytes k))) → (lens₂ bytes₂ : List ℕ) →
          cut lens₂ bytes₂ ≡ with_run k (λ (l : Bytes). removed l r.used (get_or lens k 0 - r.used)) (cut lens bytes₁) → cut lens₂ bytes₂ ≡ with_run k (λ (l : Bytes). packed_all (without_id (null w) (unpack w l))) (cut lens bytes)
      closed_view f lens₂ bytes₂ c =
          let rem : Bytes → Bytes = λ (l : Bytes). removed l r.used (get_or lens k 0 - r.used) in
          let b = get_or (cut lens bytes) k [] in
          let place : total (take k lens) ≡ total (take k lens) + 0 = omega arith in
          let whole : splice b 0 d ≡ d = splice_whole b d (run_length lens bytes used k ok h ∙ sym ld) in
          let none : drop (r.used + (get_or lens k 0 - r.used)) d ≡ [] = drop_of_length-le d {i = r.used + (get_or lens k 0 - r.used)} (omega (arith, ld)) in
          c ∙ ap (with_run k rem) (splice_view lens bytes used k ok h 0 d bytes₁ (omega (arith, ld)) (e ∙ ap (λ (x : ℕ). splice bytes x d) place))
          ∙ with_twice rem (λ (l : Bytes). splice l 0 d) (cut lens bytes) k
          ∙ with_same (λ (l : Bytes). rem (splice l 0 d)) (λ (l : Bytes). packed_all (without_id (null w) (unpack w l))) (cut lens bytes) k
          (ap rem whole ∙ ap (λ (l : Bytes). take r.used d ++ l) none ∙ append-nil (take r.used d) ∙ f ∙ ap (λ (l : Bytes). packed_all (without_id (null w) (unpack w l))) (sym (cut_at lens bytes k h)))

-- ---- in a slot

module _ (w : ℕ) (r : Record) (plens paths tlens trees : List ℕ) (L : Laid w r plens paths tlens trees) (k : ℕ) (U : Used r k) (l : Left) (F : Fewer w (get_or (cut tlens trees) k []) r.trees l) where
  abbrev t : Tree
  t = tree_of w tlens trees k

  abbrev t' : Tree
  t' = without_id (null w) t

  well' : well_formed w t' ≡ true
  well' = well_dropped w (null w) t (L.well k U.low)

  was : length (get_or (cut tlens trees) k []) ≡ length t * (2 + w) + name_bytes t
  was = ap length (L.packed k U.low) ∙ packed_room w t (wide_good w t (well_entries w t (L.well k U.low)))

  is : length (packed_all t') ≡ length t' * (2 + w) + name_bytes t'
  is = packed_room w t' (wide_good w t' (well_entries w t' well'))

  times : length t * (2 + w) ≡ length t' * (2 + w) + l.gone * (2 + w)
  times = ap (λ (x : ℕ). x * (2 + w)) (sym F.entries) ∙ add-mul (length t') l.gone (2 + w)

  -- the bytes that are gone: those of the entries, and their names
  spared : l.used + (l.gone * (2 + w) + name_bytes t) ≡ r.trees + name_bytes t'
  spared = omega (arith, F.bytes, was, is, times)

  pub gone_in : l.gone ≤ r.entries
  gone_in = omega (arith, F.entries, entries_in_lem w r plens paths tlens trees L k U.low U.used)

  pub bytes_in_lem : l.used + l.gone * (2 + w) ≤ r.trees
  bytes_in_lem = omega (arith, spared, names_dropped (null w) t)

  pub names_gone : r.trees - l.used - l.gone * (2 + w) + name_bytes t' ≡ name_bytes t
  names_gone = omega (arith, spared, bytes_in_lem)

  pub names_left : r.trees - l.used - l.gone * (2 + w) ≤ r.names
  names_left = omega (arith, names_gone, names_in_lem w r plens paths tlens trees L k U.low U.used)

  pub dropping : (q : Record) (tlens' trees' : List ℕ) → cut tlens' trees' ≡ with_run k (λ (b : Bytes). packed_all (without_id (null w) (unpack w b))) (cut tlens trees) →
      length tlens' ≡ length tlens → length trees' ≡ length trees → Sound tlens' trees' q.trees → Kept r q → q.entries ≡ r.entries - l.gone → q.names ≡ r.names - (r.trees - l.used - l.gone * (2 + w)) →
      Edited w r plens paths tlens trees k (without_id (null w) (tree_of w tlens trees k)) q tlens' trees'
  dropping q tlens' trees' c tl tb st same ee en =
      edited L U t' (λ (b : Bytes). packed_all (without_id (null w) (unpack w b))) q tlens' trees' refl well' c same tl tb st
      (omega (arith, ee, gone_in, F.entries)) (omega (arith, en, names_gone, names_left))
