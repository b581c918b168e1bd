-- A fair write gives a turn what it asks: its paths are valid, and each tree but the start tree has its parent set aside. A turn keeps it fair, since it moves trees or drops an empty one. Assumes nothing.
use mathlib.Core.Path.{◌≡◌, refl, sym, subst}
use mathlib.Core.Bool.{Bool, true, false, not, ◌&&◌, ◌||◌, cond}
use mathlib.Core.List.{List, [], ◌∷◌}
use native.Mathlib.Omega.{arith}
use Prim.Native.Nat.{ℕ, suc}
use Rattle.model.specs.Bytes.{Bytes, is_nil}
use Rattle.model.specs.Tree.{without_id, null, well_formed}
use Rattle.model.specs.Paths.{valid_path}
use Rattle.model.specs.Editor.{Format, Held, Cache}
use Rattle.model.specs.Order.{All}
use Rattle.model.specs.Valid.{has_parent, have_parents, aside_good}
use Rattle.model.specs.Write.{Going, scanned}
use Rattle.model.proofs.Basics.{no_way, and_left, and_right}
use Rattle.model.proofs.PathLaws.{valid_fine}
use Rattle.model.proofs.SoundTrees.{total}
use Rattle.model.proofs.ValidSums.{is_bad, is_good_lem}
use Rattle.model.proofs.WriteKeeps.{Fair, FairAsk, placed, sum3, fair_unlinked, ask_aside, ask_stack, fair_stacked}
use Rattle.editor_write_steps.specs.Writes.{Brief, turned, top_turn, Ready, unlinked_on, goes, asks, finished_as, ended, next_of, StepHas, Steady, asks_on}
use Rattle.editor_write_steps.proofs.OnwardLaws.{weight, steady_by}

brief_all : (w : ℕ) (s : List Held) → total (is_bad w) s ≡ 0 → All Brief s
brief_all w [] e = tt
brief_all w (h ∷ s) e = (
  (valid_fine h.path (and_left (is_nil h.path || valid_path h.path) (well_formed w h.held) (is_good_lem ((is_nil h.path || valid_path h.path) && well_formed w h.held) (omega (arith, e))))).in_all,
  brief_all w s (omega (arith, e)),
)

some_taken : (sp : Bytes) (s k : List Held) → placed sp s k ≡ true → (is_nil s && is_nil k) ≡ false
some_taken sp [] [] e = no_way (sym e)
some_taken sp [] (h ∷ hs) e = refl
some_taken sp (h ∷ s) k e = refl

top_parent : (sp : Bytes) (h : Held) (s k : List Held) → placed sp (h ∷ s) k ≡ true → is_nil k ≡ false → has_parent h.path k ≡ true
top_parent sp h s [] e z = no_way z
top_parent sp h s (x ∷ xs) e z =
    and_left (has_parent h.path (x ∷ xs)) (have_parents s (x ∷ xs)) (and_right (aside_good sp (x ∷ xs)) (has_parent h.path (x ∷ xs) && have_parents s (x ∷ xs)) e)

turn_parent : (sp : Bytes) (s k : List Held) (c : Cache) → placed sp s k ≡ true → (turned (record { cache = c; stack = s; kept = k })).finish ≡ true →
    is_nil (turned (record { cache = c; stack = s; kept = k })).rest.kept ≡ false →
    has_parent (turned (record { cache = c; stack = s; kept = k })).hand.path (turned (record { cache = c; stack = s; kept = k })).rest.kept ≡ true
turn_parent sp [] [] c e f z = no_way (sym e)
turn_parent sp [] (h ∷ []) c e f z = no_way z
turn_parent sp [] (h ∷ x ∷ xs) c e f z =
    and_left (has_parent h.path (x ∷ xs)) (aside_good sp (x ∷ xs)) (and_left (has_parent h.path (x ∷ xs) && aside_good sp (x ∷ xs)) true e)
turn_parent sp (h ∷ s) k c e f z = go (scanned h.path h.held c).kids f z
  where
    g : Going
    g = record { cache = c; stack = s; kept = k }

    go : (kids : List Held) → (top_turn h g kids (scanned h.path h.held c).left).finish ≡ true → is_nil (top_turn h g kids (scanned h.path h.held c).left).rest.kept ≡ false →
        has_parent (top_turn h g kids (scanned h.path h.held c).left).hand.path (top_turn h g kids (scanned h.path h.held c).left).rest.kept ≡ true
    go [] y x = top_parent sp h s k e x
    go (a ∷ l) y x = no_way (sym y)

pub fair_ready : (F : Format) (sp : Bytes) (g : Going) → Fair F sp g.stack g.kept g.cache → Ready g
fair_ready F sp g f = record {
  taken = some_taken sp g.stack g.kept f.place;
  brief = brief_all F.width g.stack (omega (arith, f.sane.good, sum3 (is_bad F.width) g.stack g.kept g.cache));
  parent = turn_parent sp g.stack g.kept g.cache f.place;
}

-- ---- a turn keeps a write fair

module _ (F : Format) (sp : Bytes) where
  abbrev FairOn : Going → Type 0
  FairOn g = Fair F sp g.stack g.kept g.cache

  module _ (nil : Bytes) where
    finish_fair : (h : Held) (g : Going) → FairAsk F sp (asks_on h g) → StepHas FairOn (finished_as nil h g)
    finish_fair h g a = go (is_nil (without_id nil h.held)) (is_nil g.kept) refl
      where
        go : (b d : Bool) → is_nil g.kept ≡ d → StepHas FairOn (cond (b && not d) (goes (unlinked_on h.path g)) (asks (record { path = h.path; held = without_id nil h.held }) g))
        go true false q = fair_unlinked F sp nil h g q a
        go true true q = tt
        go false d q = tt

    top_fair : (h : Held) (s k : List Held) (c : Cache) → Fair F sp (h ∷ s) k c → StepHas FairOn (next_of nil (record { cache = c; stack = h ∷ s; kept = k }))
    top_fair h s k c f = go (scanned h.path h.held c).kids refl
      where
        g : Going
        g = record { cache = c; stack = s; kept = k }

        left : Cache
        left = (scanned h.path h.held c).left

        go : (kids : List Held) → (scanned h.path h.held c).kids ≡ kids → StepHas FairOn (ended nil (top_turn h g kids left).finish (top_turn h g kids left).hand (top_turn h g kids left).rest)
        go [] q = finish_fair h g (ask_stack F sp nil h s k c f)
        go (y ∷ ys) q = fair_stacked F sp nil h s k c f y ys q

    turn_fair : (s k : List Held) (c : Cache) → Fair F sp s k c → StepHas FairOn (next_of nil (record { cache = c; stack = s; kept = k }))
    turn_fair [] [] c f = no_way (sym f.place)
    turn_fair [] (h ∷ hs) c f = finish_fair h (record { cache = c; stack = []; kept = hs }) (ask_aside F sp nil h hs c f)
    turn_fair (h ∷ s) k c f = top_fair h s k c f

    pub next_fair : (g x : Going) → Fair F sp g.stack g.kept g.cache → goes x ≡ next_of nil g → Fair F sp x.stack x.kept x.cache
    next_fair g x f q = subst (StepHas FairOn) (sym q) (turn_fair g.stack g.kept g.cache f)

  -- so each turn up to the next request has what it asks
  pub steady_fair : (g : Going) → Fair F sp g.stack g.kept g.cache → (n : ℕ) × Steady (null F.width) n g
  steady_fair g f = (suc (weight g), steady_by (null F.width) FairOn (fair_ready F sp) (next_fair (null F.width)) (suc (weight g)) g (omega arith) f)
