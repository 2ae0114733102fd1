-- A connection, and so a worker with its places, may be handed to another thread.
use denote.Hole.FixSend.{Sends, fix_send}
use denote.Param.Send.{IsSend, sendable, view_send}
use denote.Param.SendFields.{as_row_send, declared_send, variants_send}
use denote.Struct.Field.{row_field}
use Rattle.std.proofs.option.Option.TheSendSync as option
use denote.RattleType.{RattleType}
use Rattle.turn_lock.specs.contracts.tokens.Pass as passes
use Rattle.turn_lock.proofs.tokens.Pass.TheSendSync as pass
use Rattle.hall.specs.contracts.recorded.Recorded as recorded'
use Rattle.hall.proofs.recorded.Recorded.TheSendSync as recorded
use Rattle.hall.specs.contracts.entry.HouseTurn as turn
use Rattle.hall.specs.contracts.entry.Opening as opening
use Rattle.outside.proofs.poller.Sources.TheSendSync as sources
use Rattle.conn_serve.proofs.ears.Ears.TheSendSync as ears
use Rattle.conn_serve.proofs.owed.Owed.TheSendSync as owed
use Rattle.conn_serve.specs.contracts.round.Conn as conn
use Rattle.many_links.specs.contracts.place.Line as line
use Rattle.many_links.specs.contracts.place.Place as place
use Rattle.conn_staff.specs.contracts.worker.Worker as worker
use Rattle.stanza_model.proofs.kinds.MessageForm.TheSendSync as message
use Rattle.stanza_model.proofs.kinds.PresenceForm.TheSendSync as presence
use Rattle.stanza_model.proofs.kinds.IqForm.TheSendSync as iq
use Rattle.stanza_model.proofs.kinds.Kind.TheSendSync as kind
use Rattle.stanza_model.proofs.condition.Condition.TheSendSync as condition
use Rattle.jid_core.proofs.address.Jid.TheSendSync as jid
use Rattle.jid_core.proofs.part.Part.TheSendSync as part
use Rattle.sm_resume.proofs.id.ResumeId.TheSendSync as resume
use Rattle.conn_asks.proofs.stage.Stage.TheSendSync as stage
use Rattle.conn_asks.proofs.stage.Purpose.TheSendSync as purpose
use Rattle.conn_flow.proofs.phase.Phase.TheSendSync as phase
use Rattle.stanza_model.specs.contracts.stanza.Stanza as stanza
use Rattle.house_model.specs.contracts.event.Event as event
use Rattle.conn_flow.specs.contracts.talk.Talk as talk
use Rattle.conn_flow.specs.contracts.flow.Flow as flow
use Rattle.stream_frames.specs.contracts.framer.Framer as framer
use Rattle.stream_grammar.specs.contracts.item.Item as item
use Rattle.stream_grammar.proofs.FrameFault.TheSendSync as fault
use Rattle.stream_frames.proofs.tracker.Tracker.TheSendSync as tracker
use Rattle.stream_frames.specs.contracts.work.Work as work
use Rattle.stream_frames.specs.contracts.built.Builder as builder
use Rattle.stream_frames.specs.contracts.built.OpenElement as opened
use Rattle.stream_frames.specs.contracts.built.Parent as parent
use Rattle.stream_frames.specs.contracts.framer.Framer.TheInside as inside
use Rattle.std.specs.contracts.vec.Vec as vecs
use Rattle.std.specs.contracts.alloc.Global as globals
use Rattle.std.specs.contracts.impls.GlobalAllocator.TheImpl as allocator
use Rattle.outside.specs.contracts.poller.Sources as source
use Rattle.std.proofs.vec.Vec.TheSendSync as vec
use Rattle.std.proofs.string.String.TheSendSync as string
use Rattle.std.proofs.boxed.Box.TheSendSync as boxed
use Rattle.std.proofs.alloc.Global.TheSendSync as global
use Rattle.std.below.std_heap.proofs.GlobalAllocator.TheSendSync as frees
use Rattle.stream_grammar.proofs.item.Limits.TheSendSync as limits
use Rattle.stream_grammar.proofs.namespaces.Binding.TheSendSync as binding
use Rattle.stream_grammar.proofs.namespaces.Written.TheSendSync as written
use Rattle.stanza_tree.proofs.node.Attr.TheSendSync as attr
use Rattle.stanza_tree.proofs.node.Name.TheSendSync as name
use Rattle.stanza_tree.proofs.several.Several.TheSendSync as several
use Rattle.stanza_tree.proofs.text.Text.TheSendSync as text
use Rattle.stanza_tree.specs.contracts.node.Element as element
use Rattle.stanza_tree.specs.contracts.node.Node as node
use Rattle.stanza_tree.specs.contracts.node.Node.TheKnot as knot

step_node : Sends node.the_ring node.the_member
step_node = record {
  send = λ h all.
      let child = all element.the_member in
      variants_send (knot.type-Node (h element.the_member)) ((as_row_send (row_field (h element.the_member)) child, tt), ((search (sendable, as_row_send, text.the_send), tt), tt));
}

step_element : Sends element.the_ring element.the_member
step_element = record {
  send = λ h all.
      let child = all node.the_member in
      declared_send (element.the_layer h) (
        search (sendable, name.the_send),
        (search (sendable, several.the_send, attr.the_send), (search (sendable, as_row_send, several.the_send, child), tt)),
      );
}

tied : IsSend node.the_hole
tied = fix_send node.the_ring (node.by_members _ step_node step_element) node.the_member

element_send : IsSend element.the_row
element_send =
    declared_send element.the_type (
      search (sendable, name.the_send),
      (search (sendable, several.the_send, attr.the_send), (search (sendable, several.the_send, tied), tt)),
    )

node_send : IsSend node.the_row
node_send = variants_send node.enum ((search (sendable, element_send), tt), ((search (sendable, text.the_send), tt), tt))

stanza_send : IsSend stanza.the_row
stanza_send = variants_send stanza.enum (search (sendable, as_row_send, element_send, text.the_send, jid.the_send, message.the_send, presence.the_send, iq.the_send, kind.the_send, condition.the_send, option.the_send) depth 20)

event_send : IsSend event.the_row
event_send = variants_send event.enum (search (sendable, as_row_send, stanza_send, text.the_send, part.the_send, resume.the_send, option.the_send) depth 30)

talk_send : IsSend talk.the_row
talk_send = declared_send talk.the_type (search (sendable, as_row_send, event_send, part.the_send, several.the_send, stage.the_send, purpose.the_send, phase.the_send, option.the_send) depth 30)

item_send : IsSend item.the_row
item_send = variants_send item.enum (search (sendable, as_row_send, element_send, text.the_send, fault.the_send) depth 20)

opened_send : IsSend opened.the_row
opened_send = declared_send opened.the_type (search (sendable, as_row_send, name.the_send, attr.the_send, several.the_send, vec.the_send, node_send, global.the_send, frees.the_frees) depth 20)

parent_send : IsSend parent.the_row
parent_send = declared_send parent.the_type (search (sendable, as_row_send, name.the_send, attr.the_send, several.the_send, vec.the_send, node_send, global.the_send, frees.the_frees) depth 20)

builder_send : IsSend builder.the_row
builder_send = declared_send builder.the_type (search (sendable, as_row_send, string.the_send, written.the_send, binding.the_send, several.the_send, vec.the_send, opened_send, parent_send, item_send, option.the_send, global.the_send, frees.the_frees) depth 20)

work_send : IsSend work.the_row
work_send = declared_send work.the_type (search (sendable, as_row_send, binding.the_send, several.the_send, vec.the_send, boxed.the_send, builder_send, option.the_send, global.the_send, frees.the_frees) depth 20)

framer_send : IsSend framer.the_row
framer_send = view_send inside.the_row _ _ _ _ (declared_send inside.the_type (search (sendable, as_row_send, tracker.the_send, work_send, fault.the_send, limits.the_send, option.the_send, global.the_send) depth 20))

flow_send : IsSend flow.the_row
flow_send = search (sendable, as_row_send, declared_send, talk_send, framer_send) depth 10

conn_send : IsSend conn.the_row
conn_send = declared_send conn.the_type (search (sendable, as_row_send, flow_send, ears.the_send, owed.the_send) depth 10)

line_send : (L : RattleType) → IsSend L → IsSend (line.the_row L)
line_send L link = declared_send (line.the_type L) (search (sendable, link, conn_send) depth 10)

place_send : (A L C I : RattleType) → IsSend A → IsSend L → IsSend C → IsSend I → IsSend (place.the_row A L C I)
place_send A L C I pass link clock dice =
    declared_send (place.the_type A L C I) (search (sendable, as_row_send, line_send, pass, link, clock, dice) depth 20)

pass_send : IsSend (passes.the_row recorded'.the_row turn.the_row opening.the_row)
pass_send = search (sendable, pass.the_send, recorded.the_send) depth 10

pub worker_send : (P L C I : RattleType) → IsSend P → IsSend L → IsSend C → IsSend I → IsSend (worker.the_row P L C I)
worker_send P L C I poller link clock dice =
    declared_send (worker.the_type P L C I) (
      as_row_send (row_field P) poller,
      (
        as_row_send (vecs.the_field (place.the_row (passes.the_row recorded'.the_row turn.the_row opening.the_row) L C I) globals.the_row allocator.ghosts)
            (vec.the_send _ _ _ (place_send _ L C I pass_send link clock dice) global.the_send frees.the_frees),
        (
          as_row_send (vecs.the_field (source.the_row C I) globals.the_row allocator.ghosts)
              (vec.the_send _ _ _ (sources.the_send C I clock dice) global.the_send frees.the_frees),
          (owed.the_send, (search sendable, tt)),
        ),
      ),
    )
