-- Proves the reborrow by hand: the checker has no rule for a returned `&mut **self` of a slice.
use mathlib.Core.Path.{◌≡◌, refl, sym, ap}
use Prim.Native.Nat.{ℕ}
use mathlib.Core.List.{List, [], ◌∷◌}
use lib.ListN.{length}
use base.Fml.{ftrue, fat, flft, GName}
use mir.Syntax.{named, erased, mut, ty_ref, ty_int, w8}
use mir.Val.{Val}
use types.Kit.{‵, ◌⊛◌, some, later, ◌$◌, ◌∵◌, !, qed, done, move, keep, use1, use3, split, split3, join, fsplit3, fjoin, pick, await, rewrite, suffices, frame}
use types.Part.{whole, sub, look_in, agg}
use types.Run.{enter, of_opd, addr, load, stop, fld, hop, no_more, and_then, returns}
use types.ByLocal.{alloc_all, pass_all, free_all, look_at, get, through, sets}
use base.Fraction.{full_share}
use denote.Exit.{no}
use denote.Memory.{cell_at}
use denote.Ref.{MutBor, MutRef, mut_vals, mut_Tells}
use denote.Builtin.{u8}
use denote.Slice.{MutSlice, slice_ty, slice_val}
use denote.Array.{Array}
use denote.Follow.{follows}
use denote.Laws.{shows}
use denote.Signature.{plain, mut_slice_of, mut_ref_to}
use denote.Steps.{nothing, opens, closes, peeks}
use denote.Triple.Walked.{says, Stays, stay_dropped, walk_of, ends_at, Goes-spent_ref}
use denote.Through.{renamed}
use Rattle.std.proofs.raw_atomic.Walks.{proved}
use Rattle.dns_octets.specs.Octets.{written_over_whole, written_through}
use Rattle.dns_octets.proofs.SliceThrough.{lends_slice_through}
use Rattle.dns_octets.specs.contracts.octets.RefMutSliceU8AsOctetsMut.as_slice_mut as f
use Rattle.dns_octets.proofs.octets.RefMutSliceU8AsOctetsMut.as_slice_mut.Statement.{statement}
use Rattle.dns_octets.proofs.octets.RefMutSliceU8AsOctetsMut.as_slice_mut.Code as code

abbrev stayed : Stays f.ended.signature.params f.ended.kept
stayed = (stay_dropped (mut_ref_to (0 ∷ []) tt (mut_slice_of (1 ∷ []) tt (plain (λ _. u8)))) no, tt)

pub as_slice_mut_spec : {M : Type 1} → statement M
as_slice_mut_spec 𝓤 𝓛 𝓜 𝓡 wired =
    let c = f.clauses 𝓛 𝓜.mem 𝓡.returns in let W = walk_of 𝓛 f.ended stayed c in
    proved 𝓛 f.ended stayed c 𝓜 𝓡 (Goes-spent_ref 𝓛 2 (0 ∷ []) tt (mut_slice_of (1 ∷ []) tt (plain (λ _. u8))), tt)
    f.Key.name code.function (code.unfolded 𝓤 𝓛.H 𝓜 𝓡 wired)
    (λ κs. (mut_vals, tt)) (λ κs. (mut_Tells (named 0) κs.0 (MutSlice (named 1) κs.1.0 u8), tt)) (λ κs qs bounds a _ are.
    let κ = κs.0 in let κ' = κs.1.0 in let q = qs.0 in let x = a.0 in let b = x.ref_ptr.0 in let o = x.ref_ptr.1 in let vs = mut_vals x in
    let S = MutSlice (named 1) κ' u8 in let n = length x.now.now in
    let y : W.Ghost = ((κs, qs, bounds, a, (vs, tt)), tt) in
    let new : List ℕ → MutBor (List ℕ) = written_through x.now in
    let agrees : (ws : List ℕ) → length ws ≡ n → new ws ≡ record x.now { now = ws } = λ ws e. ap (λ (l : List ℕ). record x.now { now = l }) (written_over_whole x.now.now ws e) in
    qed 𝓛 (((‵ (flft κ q) ⊛ ‵ (flft κ' qs.1.0) ⊛ ‵ ftrue) ⊛ ‵ ((MutRef (named 0) κ S).own_val x vs) ⊛ ‵ ftrue) ∷ ‵ ftrue ∷ []) ∵
    split ! $ split ! $ move ! (2 ∷ []) $ split ! $ keep ! (0 ∷ 2 ∷ 3 ∷ []) $
    enter ! _ _ _ _ _ $ alloc_all ! (λ l. pass_all ! refl ((tt, tt), tt) $
    fsplit3 ! $ move ! (1 ∷ 2 ∷ 3 ∷ []) $ opens ! tt S b o (λ us.
    move ! (1 ∷ []) $ peeks ! S _ (shows 𝓛 S) x.now us (λ is.
    let Cell = λ (ws : List Val). ‵ (cell_at full_share S.mir ws b o) in
    move ! (1 ∷ []) $ rewrite ! 0 Cell is.0.0 refl $
    let at = slice_ty (ty_ref erased mut (ty_int w8)) in let to = slice_val x.now.ref_ptr n in
    use1 𝓛 (‵ (fat full_share at b o to)) (𝓛.laws.raw_at full_share at b o to) $
    -- [the inner reference's cell; what it owns; the open borrow, in three entries; ..]
    sets ! (of_opd ! (load ! (through ! refl (fld ! refl (stop !))) (look_in ! 0 (sub ! 1 refl (whole !))))) refl (tt, record { fits = is.0.1.0 }) $
    sets ! (addr ! (through ! refl (fld ! refl (hop ! (look_in ! 0 (sub ! 0 refl (whole !))) (stop !))))) refl (tt, tt) $
    sets ! (agg ! (and_then ! (get ! refl) (and_then ! (get ! refl) (no_more !)))) refl (tt, (tt, (record { fits = is.0.1.0 }, tt))) $
    use1 𝓛 (Cell (to ∷ [])) (𝓛.laws.at_raw full_share at b o to) $ rewrite ! 0 Cell (sym is.0.0) refl $ closes ! tt S x.now us b o $
    use3 𝓛 (later (some (λ (γ' : GName). ‵ ((MutSlice (named 0) κ u8).own_val (renamed x.now γ') (to ∷ [])) ⊛ ‵ (flft κ q) ⊛ ‵ (follows S (Array u8 0) x.ghost_name γ' new))))
    (lends_slice_through 𝓛 u8 (named 0) (named 1) κ κ' x new agrees bounds.0 is.0.1 q) $ await ! tt $ pick ! (λ γ'. split3 ! $
    returns ! (look_at ! 0 refl) $ free_all ! refl $ keep ! (1 ∷ 4 ∷ 2 ∷ 0 ∷ []) $
    suffices ! _ (ends_at 𝓛 f.ended stayed c y to (renamed x.now γ') (tt, tt) (tt, tt)) $
    join ! $ nothing ! $ nothing ! $ fjoin ! $ move ! (0 ∷ 3 ∷ []) $ join ! $ move ! (1 ∷ 0 ∷ []) $ join ! $ frame ! $ says ! refl $ done !)))))
