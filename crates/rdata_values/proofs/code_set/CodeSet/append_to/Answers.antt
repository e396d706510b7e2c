use Rattle.std.proofs.Common.{◌≡◌, ◌∙◌, ◌++◌, sym, ap, refl, append-nil, length, arith}
use Rattle.std.proofs.lemmas.Result.{err_from_is_err_and}
use Rattle.rdata_values.specs.Bitmap.{window_octets_of, window_blocks, bitmap}
use Rattle.rdata_values.specs.Members.{members}
use Rattle.rdata_values.proofs.Bits.{octets_length}
use Rattle.rdata_values.proofs.Blocks.{blocks_none}
use Rattle.rdata_values.proofs.Windows.{window_of}
use Rattle.rdata_values.proofs.Sets.{all_blocks, block_more, block_lacks}
use Rattle.rdata_values.proofs.code_set.CodeSet.append_to.Goals as goal

pub loop-window-init : goal.loop-window-init
loop-window-init g c = sym (ap (λ xs. g.B.AsOctets.octets c.args.target.now ++ xs) (blocks_none (window_of c.args.self.now) 0) ∙ append-nil (g.B.AsOctets.octets c.args.target.now))

pub returns-in_err-append_window-clause-lacks : goal.returns-in_err-append_window-clause-lacks
returns-in_err-append_window-clause-lacks g c =
    let w = c.loop-window.window in
    let p = err_from_is_err_and c.from_residual.result c.from_residual.ensures.1 in
    let ends : window_blocks (window_of c.args.self.now) 0 c.self.inside.windows ≡ bitmap c.args.self.now =
    ap (λ ts. window_blocks (window_of ts) 0 c.self.inside.windows) (sym c.self.view_is) ∙ all_blocks c.self.inside.octets c.self.inside.windows c.self.invariant ∙ ap bitmap c.self.view_is in
    rw p.1 (block_lacks c.args.self.now (g.B.AsOctets.octets c.args.target.now) (g.B.AsOctets.octets c.loop-window.target) c.window_part-octets.result.now w c.self.inside.windows
    g.B.OctetsBuilder.room.fits ends c.loop-window-test.true c.loop-window.invariant (c.window_part-octets.ensures ∙ ap (λ ts. window_octets_of ts w) c.self.view_is)
    (c.in_err-append_window.ensures.lacks _ refl))

pub loop-window-preserved : goal.loop-window-preserved
loop-window-preserved g c =
    let w = c.loop-window.window in
    block_more c.args.self.now (g.B.AsOctets.octets c.args.target.now) (g.B.AsOctets.octets c.loop-window.target) (g.B.AsOctets.octets c.append_window.new.target) c.window_part-octets.result.now w
    c.loop-window.invariant (c.window_part-octets.ensures ∙ ap (λ ts. window_octets_of ts w) c.self.view_is) c.in_ok-append_window.ensures.ok

pub returns-clause-ok : goal.returns-clause-ok
returns-clause-ok g c =
    let n = c.self.inside.windows in
    let ends : window_blocks (window_of c.args.self.now) 0 n ≡ bitmap c.args.self.now =
    ap (λ ts. window_blocks (window_of ts) 0 n) (sym c.self.view_is) ∙ all_blocks c.self.inside.octets n c.self.invariant ∙ ap bitmap c.self.view_is in
    c.loop-window.invariant ∙ ap (λ k. g.B.AsOctets.octets c.args.target.now ++ window_blocks (window_of c.args.self.now) 0 k) (omega arith) ∙ ap (λ x. g.B.AsOctets.octets c.args.target.now ++ x) ends

pub append_window-requires : goal.append_window-requires
append_window-requires g c = ap length c.window_part-octets.ensures ∙ octets_length (members c.self.inside.octets) c.loop-window.window
