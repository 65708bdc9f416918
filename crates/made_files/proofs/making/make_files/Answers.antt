use Rattle.std.proofs.Common.{rules, ◌≡◌, ◌∙◌, ap, sym, subst, length, List}
use Rattle.std.specs.List.{All}
use Rattle.made_input.specs.Edges.{IsMade}
use Rattle.made_input.specs.declared.edges.MadeEdge.{MadeEdge}
use Rattle.made_input.proofs.Plain.{all_made}
use Rattle.made_files.specs.Files.{files_of}
use Rattle.made_files.proofs.Others.{full_keeps, part_keeps}
use Rattle.made_files.proofs.Parts.{all_done, edges_so, first_stopped, none_wrote, second_stopped, third_stopped}
use Rattle.made_files.proofs.Written.{later_then}
use Rattle.made_files.specs.declared.stops.MakeStop.TheVariants as stops
use Rattle.made_files.proofs.making.make_files.Goals as goal

pub write_edges-requires-clause-made : goal.write_edges-requires-clause-made
write_edges-requires-clause-made g c = λ _ _.
    let w = c.wish_of-wish.result in
    subst (λ (es : List MadeEdge). All (IsMade w) es) (sym c.as_slice.ensures.value) (all_made w c.in-Ok.edges.list.items c.in-Ok.edges.state c.in-Ok.ensures.edges)

pub returns-in_default-clause-wrote : goal.returns-in_default-clause-wrote
returns-in_default-clause-wrote g c = none_wrote c.args.job.now (g.P.Place.state c.args.place.now) (files_of c.args.job.now)

pub returns-in_default-clause-others : goal.returns-in_default-clause-others
returns-in_default-clause-others g c = part_keeps c.args.job.now (g.P.Place.state c.args.place.now) (g.P.Place.state c.args.place.now) (files_of c.args.job.now) stops.NoMemory (returns-in_default-clause-wrote g c)

pub returns-in-Err-clause-wrote : goal.returns-in-Err-clause-wrote
returns-in-Err-clause-wrote g c = first_stopped c.args.job.now c.wish_of-wish.result c.in-Ok.edges.list.items c.in-Ok.edges.state c.wish_of-wish.ensures.is c.in-Ok.ensures.edges
    (g.P.Place.state c.args.place.now) (g.P.Place.state c.write_supervoxels.new.place) c.in-Err.stop c.in-Err.ensures.wrote

pub returns-in-Err-clause-others : goal.returns-in-Err-clause-others
returns-in-Err-clause-others g c = part_keeps c.args.job.now (g.P.Place.state c.args.place.now) (g.P.Place.state c.write_supervoxels.new.place) (files_of c.args.job.now) c.in-Err.stop (returns-in-Err-clause-wrote g c)

pub returns-in-Err-write_edges-clause-wrote : goal.returns-in-Err-write_edges-clause-wrote
returns-in-Err-write_edges-clause-wrote g c = second_stopped c.args.job.now c.wish_of-wish.result c.as_slice.result.now c.in-Ok.edges.state c.wish_of-wish.ensures.is (c.in-Ok.ensures.edges ∙ ap (λ (es : List MadeEdge). (es, c.in-Ok.edges.state)) (sym c.as_slice.ensures.value))
    (g.P.Place.state c.args.place.now) (g.P.Place.state c.write_supervoxels.new.place) (g.P.Place.state c.write_edges.new.place) c.in-Err-write_edges.stop c.write_supervoxels.ensures.later c.in-Ok-write_supervoxels.ensures.wrote c.in-Err-write_edges.ensures.wrote

pub returns-in-Err-write_edges-clause-others : goal.returns-in-Err-write_edges-clause-others
returns-in-Err-write_edges-clause-others g c = part_keeps c.args.job.now (g.P.Place.state c.args.place.now) (g.P.Place.state c.write_edges.new.place) (files_of c.args.job.now) c.in-Err-write_edges.stop (returns-in-Err-write_edges-clause-wrote g c)

pub returns-in-Err-write_edges-clause-later : goal.returns-in-Err-write_edges-clause-later
returns-in-Err-write_edges-clause-later g c = later_then (g.P.Place.state c.args.place.now) (g.P.Place.state c.write_supervoxels.new.place) (g.P.Place.state c.write_edges.new.place) c.write_supervoxels.ensures.later c.write_edges.ensures.later

pub returns-in-Ok-write_streams-clause-wrote : goal.returns-in-Ok-write_streams-clause-wrote
returns-in-Ok-write_streams-clause-wrote g c = all_done c.args.job.now c.wish_of-wish.result c.as_slice.result.now c.in-Ok.edges.state c.wish_of-wish.ensures.is (c.in-Ok.ensures.edges ∙ ap (λ (es : List MadeEdge). (es, c.in-Ok.edges.state)) (sym c.as_slice.ensures.value))
    (g.P.Place.state c.args.place.now) (g.P.Place.state c.write_supervoxels.new.place) (g.P.Place.state c.write_edges.new.place) (g.P.Place.state c.write_streams.new.place) c.in-Ok-write_supervoxels.ensures.wrote c.in-Ok-write_edges.ensures.wrote c.in-Ok-write_streams.ensures.wrote

pub returns-in-Ok-write_streams-clause-others : goal.returns-in-Ok-write_streams-clause-others
returns-in-Ok-write_streams-clause-others g c = full_keeps (g.P.Place.state c.args.place.now).files (g.P.Place.state c.write_streams.new.place).files (files_of c.args.job.now) ((returns-in-Ok-write_streams-clause-wrote g c).0)

pub returns-in-Ok-write_streams-clause-edges : goal.returns-in-Ok-write_streams-clause-edges
returns-in-Ok-write_streams-clause-edges g c =
    let count : c.len.result ≡ length c.in-Ok.edges.list.items = search rules in
    count ∙ edges_so c.args.job.now c.wish_of-wish.result c.in-Ok.edges.list.items c.in-Ok.edges.state c.wish_of-wish.ensures.is c.in-Ok.ensures.edges

pub returns-clause-wrote : goal.returns-clause-wrote
returns-clause-wrote g c = third_stopped c.args.job.now c.wish_of-wish.result c.as_slice.result.now c.in-Ok.edges.state c.wish_of-wish.ensures.is (c.in-Ok.ensures.edges ∙ ap (λ (es : List MadeEdge). (es, c.in-Ok.edges.state)) (sym c.as_slice.ensures.value))
    (g.P.Place.state c.args.place.now) (g.P.Place.state c.write_supervoxels.new.place) (g.P.Place.state c.write_edges.new.place) (g.P.Place.state c.write_streams.new.place) c.in-Err-write_streams.stop c.write_supervoxels.ensures.later c.write_edges.ensures.later c.in-Ok-write_supervoxels.ensures.wrote c.in-Ok-write_edges.ensures.wrote c.in-Err-write_streams.ensures.wrote

pub returns-clause-others : goal.returns-clause-others
returns-clause-others g c = part_keeps c.args.job.now (g.P.Place.state c.args.place.now) (g.P.Place.state c.write_streams.new.place) (files_of c.args.job.now) c.in-Err-write_streams.stop (returns-clause-wrote g c)
