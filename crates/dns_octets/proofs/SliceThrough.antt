-- What a `&mut [T]` points at is lent for all of κ, where that reference is what another `&mut`, at κ, points at. The outer's last value is F of the result's last list.
-- `denote.Through`'s `lends_inner_slice` at any F that agrees with `at_last` at the lists of the slice's length. Assumes `Logic`.
use mathlib.Core.Path.{◌≡◌, refl, sym, subst}
use Prim.Native.Nat.{ℕ}
use mathlib.Core.List.{List, [], ◌∷◌}
use lib.ListN.{length}
use seplogic.Ra.Ura.{Ura}
use base.Fraction.{full_share}
use base.Stored.{coded_list}
use base.Logic.{SProp, ent, sep, ex, guard}
use base.Fml.{Lft, Incl, GName, Share, Fml, fsep, fobs, fbor, flft}
use mir.Syntax.{Lifetime}
use mir.Val.{Val}
use types.Logic.{Logic, sem}
use types.Kit.{‵, check, use2, ◌⊛◌, some, later, await, ◌$◌, ◌∵◌, !, qed, move, use3, pick, show, split3, rewrite, fsplit, fsplit3, fjoin, fjoin3, fpick, fpack, feq_i, feq_l, updating}
use types.Kit.{now as at_once, done}
use types.SemTy.{Body, Arr}
use types.Through.{hands_through}
use denote.RattleType.{RattleType}
use denote.Memory.{mem, cell_at, part_of}
use denote.Ref.{MutBor, at_last}
use denote.Follow.{follows}
use denote.Array.{Array}
use denote.Slice.{MutSlice, room, Room, mut_slice_vals, slice_val}
use denote.FollowSlice.{heres_id, slice_of}
use denote.Through.{renamed}

module _ {M : Type 1} {𝓤 : Ura M} (𝓛 : Logic 𝓤) (T : RattleType) (ℓ ℓ' : Lifetime) (κ κ' : Lft) (x : MutBor (MutBor (List T.Denot)))
    (F : List T.Denot → MutBor (List T.Denot)) (agrees : (ws : List T.Denot) → length ws ≡ length x.now.now → F ws ≡ at_last x.now ws) where
  open 𝓛 use {H, A}

  abbrev Sl : RattleType
  Sl = MutSlice ℓ' κ' T

  abbrev n : ℕ
  n = length x.now.now

  abbrev Held : GName → Fml
  Held δ = Body (Arr (mem T) n) x.now.ref_ptr.0 x.now.ref_ptr.1 δ

  abbrev Cellˢ : Fml
  Cellˢ = cell_at full_share Sl.mir (mut_slice_vals x.now) x.ref_ptr.0 x.ref_ptr.1

  abbrev Has : List T.Denot → SProp 𝓤
  Has ws = sep 𝓤 (A.obs x.now.ghost_name ((coded_list T.coded).code ws)) (sep 𝓤 (A.bor κ' (Held x.now.ghost_name)) (sem 𝓛 (fsep Cellˢ (room T n))))

  counts : (ws : List T.Denot) → ent 𝓤 (sem 𝓛 ((Arr (mem T) n).own_at ws x.now.ref_ptr.0 x.now.ref_ptr.1)) (guard 𝓤 (length ws ≡ n) (sem 𝓛 ((Arr (mem T) n).own_at ws x.now.ref_ptr.0 x.now.ref_ptr.1)))
  counts ws = qed 𝓛 (‵ ((Arr (mem T) n).own_at ws x.now.ref_ptr.0 x.now.ref_ptr.1) ∷ []) ∵ fsplit ! $ feq_l ! (λ e. check ! e $ feq_i ! ℕ (length ws) n e $ done !)

  slice_out : ent 𝓤 (sem 𝓛 ((mem Sl).own_at x.now x.ref_ptr.0 x.ref_ptr.1)) (Has x.now.now)
  unfolding part_of
  slice_out = qed 𝓛 (‵ ((mem Sl).own_at x.now x.ref_ptr.0 x.ref_ptr.1) ∷ []) ∵ fpick ! (λ vs. fsplit ! $ move ! (1 ∷ []) $ fsplit3 ! $ fsplit ! $ feq_l ! (λ e.
      rewrite ! 3 (λ (us : List Val). ‵ (cell_at full_share Sl.mir us x.ref_ptr.0 x.ref_ptr.1)) e refl $
      rewrite ! 1 (λ (l : List T.Denot). ‵ (fobs x.now.ghost_name ((coded_list T.coded).code l))) (heres_id T x.now.now) refl $ move ! (1 ∷ 2 ∷ 3 ∷ 0 ∷ []) $ done !))

  slice_in : (ws : List T.Denot) → length ws ≡ n → ent 𝓤 (Has ws) (sem 𝓛 ((mem Sl).own_at (at_last x.now ws) x.ref_ptr.0 x.ref_ptr.1))
  unfolding part_of
  slice_in ws e = qed 𝓛 (‵ (fobs x.now.ghost_name ((coded_list T.coded).code ws)) ∷ ‵ (fbor κ' (Held x.now.ghost_name)) ∷ ‵ (fsep Cellˢ (room T n)) ∷ []) ∵
      rewrite ! 0 (λ (l : List T.Denot). ‵ (fobs x.now.ghost_name ((coded_list T.coded).code l))) (sym (heres_id T ws)) refl $
      rewrite ! 1 (λ (k : ℕ). ‵ (fbor κ' (Body (Arr (mem T) k) x.now.ref_ptr.0 x.now.ref_ptr.1 x.now.ghost_name))) (sym e) refl $
      rewrite ! 2 (λ (k : ℕ). ‵ (fsep (cell_at full_share Sl.mir (slice_val x.now.ref_ptr k ∷ []) x.ref_ptr.0 x.ref_ptr.1) (room T k))) (sym e) refl $
      move ! (2 ∷ []) $ fsplit ! $ move ! (1 ∷ []) $ feq_i ! (List Val) (mut_slice_vals (at_last x.now ws)) (mut_slice_vals (at_last x.now ws)) refl $ fjoin ! $ move !
      (0 ∷ 2 ∷ 3 ∷ []) $ fjoin3 ! $ move ! (1 ∷ 0 ∷ []) $ fjoin ! $
      fpack ! (List Val) (λ us. fsep (cell_at full_share Sl.mir us x.ref_ptr.0 x.ref_ptr.1) (Sl.own_val (at_last x.now ws) us)) (mut_slice_vals (at_last x.now ws)) $ done !

  back : (ws : List T.Denot) → length ws ≡ n → ent 𝓤 (Has ws) (sem 𝓛 ((mem Sl).own_at (F ws) x.ref_ptr.0 x.ref_ptr.1))
  back ws e = subst (λ (z : MutBor (List T.Denot)). ent 𝓤 (Has ws) (sem 𝓛 ((mem Sl).own_at z x.ref_ptr.0 x.ref_ptr.1))) (sym (agrees ws e)) (slice_in ws e)

  abbrev pub SliceLent : Share → GName → SProp 𝓤
  SliceLent q γ' = sep 𝓤 (sem 𝓛 ((MutSlice ℓ κ T).own_val (renamed x.now γ') (mut_slice_vals x.now))) (sep 𝓤 (A.lft κ q) (sem 𝓛 (follows Sl (Array T 0) x.ghost_name γ' F)))

  pub lends_slice_through : Incl κ κ' → Room T n → (q : Share)
      → ent 𝓤 (sep 𝓤 (A.obs x.ghost_name (Sl.coded.code x.now)) (sep 𝓤 (A.bor κ (Body (mem Sl) x.ref_ptr.0 x.ref_ptr.1 x.ghost_name)) (A.lft κ q))) (H.⇛ (ex 𝓤 (SliceLent q)))
  lends_slice_through inc rm q =
      qed 𝓛 (‵ (fobs x.ghost_name (Sl.coded.code x.now)) ∷ ‵ (fbor κ (Body (mem Sl) x.ref_ptr.0 x.ref_ptr.1 x.ghost_name)) ∷ ‵ (flft κ q) ∷ []) ∵ updating ! $
      use3 𝓛 (later (some (λ (γ' : GName). ‵ (fobs γ' ((coded_list T.coded).code x.now.now)) ⊛ ‵ (fbor κ (Held γ')) ⊛ ‵ (flft κ q) ⊛ ‵ (follows Sl (Array T 0) x.ghost_name γ' F))))
      (hands_through 𝓛 (mem Sl) (Arr (mem T) n) F κ κ' inc x.ref_ptr.0 x.ref_ptr.1 x.now.ref_ptr.0 x.now.ref_ptr.1 x.ghost_name x.now.ghost_name (sem 𝓛 (fsep Cellˢ (room T n)))
      (λ ws. length ws ≡ n) counts back q x.now x.now.now slice_out) $
      await ! tt $ pick ! (λ γ'. split3 ! $ use2 𝓛 (‵ ((MutSlice ℓ κ T).own_val (renamed x.now γ') (mut_slice_vals x.now)))
      (slice_of 𝓛 T ℓ κ x.now.ref_ptr.0 x.now.ref_ptr.1 γ' x.now.now rm) $ at_once ! $ show ! (SliceLent q) γ' $ done !)
