-- Laws of turns: each is what the model's definitions say of the entry that was seen, by its mode alone. Assumes nothing.
use mathlib.Core.Path.{◌≡◌, refl, sym, ap, ap₂, ◌∙◌}
use mathlib.Core.Bool.{Bool, true, false, true≢false}
use denote.Enum.Bare.{sameb}
use mathlib.Core.Option.{Option, none, some}
use Rattle.std.specs.Prelude.{Option as Opt, Some, None, Ok, Err}
use Rattle.model.specs.Bytes.{Bytes}
use Rattle.model.specs.Tree.{Mode, TREE, is_tree, Entry, entry_of, without, with_entry, null}
use Rattle.model.specs.Walk.{ANY, LEAF, remove, upsert, stop, last, down, pick_turn, through, to_remove, removed, at_last, at_earlier, turn}
use Rattle.model.specs.Measure.{Counts, less_name, stays, ends, goes, pick_sight, seen_last, seen_earlier, seen}
use Rattle.model.proofs.Basics.{none_some, some_none, some_inj}
use Rattle.names.specs.Answers.{as_mode}
use Rattle.editor_terms.specs.Ids.{id_bytes}
use Rattle.editor_terms.specs.contracts.edit.RemoveKind.{the_type}
use Rattle.editor_terms.specs.Edits.{as_removal, parts_of, seen_as, TurnIs}
use Rattle.editor_terms.specs.declared.id.Id.{Id}
use Rattle.names.specs.declared.mode.EntryKind.{EntryKind}
use Rattle.names.specs.declared.mode.EntryKind.TheVariants as K
use Rattle.editor_terms.specs.declared.refusal.Refusal.TheVariants as C
use Rattle.editor_terms.specs.declared.edit.RemoveKind.{RemoveKind}
use Rattle.editor_terms.specs.declared.edit.RemoveKind.TheVariants as R
use Rattle.editor_terms.specs.declared.edit.Edit.TheVariants as E
use Rattle.editor_terms.specs.declared.edit.Seen.{Seen}
use Rattle.editor_terms.specs.declared.edit.Turn.TheVariants as T

-- what was seen is an entry of that mode and id, or none
pub seen_none : (o : Option Entry) → seen_as None ≡ parts_of o → o ≡ none
seen_none none h = refl
seen_none (some e) h = none_some (e.mode, e.id) h

pub seen_some : (s : Seen) (o : Option Entry) → seen_as (Some s) ≡ parts_of o → (e : Entry) × (o ≡ some e) × (e.mode ≡ as_mode s.kind) × (e.id ≡ id_bytes s.id)
seen_some s none h = some_none (as_mode s.kind, id_bytes s.id) h
seen_some s (some e) h =
    let q = some_inj (as_mode s.kind, id_bytes s.id) (e.mode, e.id) h in
    (e, refl, sym (ap (λ (z : Mode × Bytes). z.0) q), sym (ap (λ (z : Mode × Bytes). z.1) q))

-- a removal where nothing is
pub removes_nothing : (k : RemoveKind) (b : Bool) → TurnIs (E.Remove k) b None (T.Stop (Ok tt))
unfolding turn at_last at_earlier removed to_remove seen seen_last seen_earlier
removes_nothing k true =
    record {
      walks = λ n t h. ap (λ (o : Option Entry). removed (as_removal k) n t o) (seen_none (entry_of n t) (h refl));
      counts = λ n u o h. ap (λ (z : Option Entry). seen_last (remove (as_removal k)) n u z) (seen_none o h) ∙ of k n u;
    }
  where
    of : (k : RemoveKind) (n : Bytes) (u : Counts) → seen_last (remove (as_removal k)) n u none ≡ stays 0
    of R.Any n u = refl
    of R.Leaf n u = refl
removes_nothing k false =
    record {
      walks = λ n t h. ap (λ (o : Option Entry). to_remove t o) (seen_none (entry_of n t) (h refl));
      counts = λ n u o h. ap (λ (z : Option Entry). seen_earlier (remove (as_removal k)) n u z) (seen_none o h);
    }

-- at the last component
pub cuts_any : (s : Seen) → TurnIs (E.Remove R.Any) true (Some s) T.Cut
unfolding turn at_last removed seen seen_last
cuts_any s =
    record {
      walks = λ n t h. ap (λ (o : Option Entry). removed ANY n t o) (seen_some s (entry_of n t) (h refl)).1;
      counts = λ n u o h. ap (λ (z : Option Entry). seen_last (remove ANY) n u z) (seen_some s o h).1;
    }

pub refuses_tree : (s : Seen) → is_tree (as_mode s.kind) ≡ true → TurnIs (E.Remove R.Leaf) true (Some s) (T.Stop (Err C.NotALeaf))
unfolding turn at_last removed seen seen_last
refuses_tree s f =
    record {
      walks = λ n t h.
          let x = seen_some s (entry_of n t) (h refl) in
          ap (λ (o : Option Entry). removed LEAF n t o) x.1 ∙ ap (λ (b : Bool). pick_turn b (stop 4) (last (without n t))) (ap is_tree x.2 ∙ f);
      counts = λ n u o h.
          let x = seen_some s o h in
          ap (λ (z : Option Entry). seen_last (remove LEAF) n u z) x.1 ∙ ap (λ (b : Bool). pick_sight b (stays 4) (ends (less_name n u))) (ap is_tree x.2 ∙ f);
    }

pub cuts_leaf : (s : Seen) → is_tree (as_mode s.kind) ≡ false → TurnIs (E.Remove R.Leaf) true (Some s) T.Cut
unfolding turn at_last removed seen seen_last
cuts_leaf s f =
    record {
      walks = λ n t h.
          let x = seen_some s (entry_of n t) (h refl) in
          ap (λ (o : Option Entry). removed LEAF n t o) x.1 ∙ ap (λ (b : Bool). pick_turn b (stop 4) (last (without n t))) (ap is_tree x.2 ∙ f);
      counts = λ n u o h.
          let x = seen_some s o h in
          ap (λ (z : Option Entry). seen_last (remove LEAF) n u z) x.1 ∙ ap (λ (b : Bool). pick_sight b (stays 4) (ends (less_name n u))) (ap is_tree x.2 ∙ f);
    }

pub cuts : (k : RemoveKind) (s : Seen) → is_tree (as_mode s.kind) ≡ false → TurnIs (E.Remove k) true (Some s) T.Cut
cuts R.Any s f = cuts_any s
cuts R.Leaf s f = cuts_leaf s f

-- the two kinds, as an equality tells them apart
pub is_leaf : (k : RemoveKind) → sameb the_type k R.Leaf ≡ true → k ≡ R.Leaf
is_leaf R.Any e = absurd (true≢false (sym e))
is_leaf R.Leaf e = refl

pub is_any : (k : RemoveKind) → sameb the_type k R.Leaf ≡ false → k ≡ R.Any
is_any R.Any e = refl
is_any R.Leaf e = absurd (true≢false e)

pub puts : (k : EntryKind) (i : Id) (s : Opt Seen) → TurnIs (E.Upsert k i) true s (T.Put k i)
unfolding turn at_last seen seen_last
puts k i None =
    record {
      walks = λ n t h. refl;
      counts = λ n u o h. ap (λ (z : Option Entry). seen_last (upsert (as_mode k) (id_bytes i)) n u z) (seen_none o h);
    }
puts k i (Some s) =
    record {
      walks = λ n t h. refl;
      counts = λ n u o h. ap (λ (z : Option Entry). seen_last (upsert (as_mode k) (id_bytes i)) n u z) (seen_some s o h).1;
    }

-- at an earlier component
module _ (s : Seen) where
  pub removes_below : (k : RemoveKind) → is_tree (as_mode s.kind) ≡ true → TurnIs (E.Remove k) false (Some s) (T.Down s.id)
  unfolding turn at_earlier to_remove seen seen_earlier
  removes_below k f =
      record {
        walks = λ n t h.
            let x = seen_some s (entry_of n t) (h refl) in
            ap (λ (o : Option Entry). to_remove t o) x.1 ∙ ap₂ (λ (b : Bool) (l : Bytes). pick_turn b (down t (some l)) (stop 0)) (ap is_tree x.2 ∙ f) x.3;
        counts = λ n u o h.
            let x = seen_some s o h in
            ap (λ (z : Option Entry). seen_earlier (remove (as_removal k)) n u z) x.1 ∙ ap₂ (λ (b : Bool) (l : Bytes). pick_sight b (goes u (some l)) (stays 0)) (ap is_tree x.2 ∙ f) x.3;
      }

  pub removes_no_further : (k : RemoveKind) → is_tree (as_mode s.kind) ≡ false → TurnIs (E.Remove k) false (Some s) (T.Stop (Ok tt))
  unfolding turn at_earlier to_remove seen seen_earlier
  removes_no_further k f =
      record {
        walks = λ n t h.
            let x = seen_some s (entry_of n t) (h refl) in
            ap (λ (o : Option Entry). to_remove t o) x.1 ∙ ap₂ (λ (b : Bool) (l : Bytes). pick_turn b (down t (some l)) (stop 0)) (ap is_tree x.2 ∙ f) x.3;
        counts = λ n u o h.
            let x = seen_some s o h in
            ap (λ (z : Option Entry). seen_earlier (remove (as_removal k)) n u z) x.1 ∙ ap₂ (λ (b : Bool) (l : Bytes). pick_sight b (goes u (some l)) (stays 0)) (ap is_tree x.2 ∙ f) x.3;
      }

  module _ (k : EntryKind) (i : Id) where
    pub upserts_below : is_tree (as_mode s.kind) ≡ true → TurnIs (E.Upsert k i) false (Some s) (T.Down s.id)
    unfolding turn at_earlier through seen seen_earlier
    upserts_below f =
        record {
          walks = λ n t h.
              let x = seen_some s (entry_of n t) (h refl) in
              ap (λ (o : Option Entry). through (null 20) n t o) x.1
              ∙ ap₂ (λ (b : Bool) (l : Bytes). pick_turn b (down t (some l)) (down (with_entry (record { mode = TREE; name = n; id = null 20 }) t) none)) (ap is_tree x.2 ∙ f) x.3;
          counts = λ n u o h.
              let x = seen_some s o h in
              ap (λ (z : Option Entry). seen_earlier (upsert (as_mode k) (id_bytes i)) n u z) x.1 ∙ ap₂ (λ (b : Bool) (l : Bytes). pick_sight b (goes u (some l)) (goes u none)) (ap is_tree x.2 ∙ f) x.3;
        }

    pub upserts_over : is_tree (as_mode s.kind) ≡ false → TurnIs (E.Upsert k i) false (Some s) (T.Put K.Tree (record { bytes = null 20 }))
    unfolding turn at_earlier through seen seen_earlier
    upserts_over f =
        record {
          walks = λ n t h.
              let x = seen_some s (entry_of n t) (h refl) in
              ap (λ (o : Option Entry). through (null 20) n t o) x.1
              ∙ ap₂ (λ (b : Bool) (l : Bytes). pick_turn b (down t (some l)) (down (with_entry (record { mode = TREE; name = n; id = null 20 }) t) none)) (ap is_tree x.2 ∙ f) x.3;
          counts = λ n u o h.
              let x = seen_some s o h in
              ap (λ (z : Option Entry). seen_earlier (upsert (as_mode k) (id_bytes i)) n u z) x.1 ∙ ap₂ (λ (b : Bool) (l : Bytes). pick_sight b (goes u (some l)) (goes u none)) (ap is_tree x.2 ∙ f) x.3;
        }

pub upserts_new : (k : EntryKind) (i : Id) → TurnIs (E.Upsert k i) false None (T.Put K.Tree (record { bytes = null 20 }))
unfolding turn at_earlier through seen seen_earlier
upserts_new k i =
    record {
      walks = λ n t h.
          ap (λ (o : Option Entry). through (null 20) n t o) (seen_none (entry_of n t) (h refl));
      counts = λ n u o h. ap (λ (z : Option Entry). seen_earlier (upsert (as_mode k) (id_bytes i)) n u z) (seen_none o h);
    }
