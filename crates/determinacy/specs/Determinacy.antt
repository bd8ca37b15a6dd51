-- Determinacy: the contract of each public function of the library crates determines what a call of it gives, crate by crate as in crates.txt.
-- `text::first`, `field::last`, `field::nth` and `Writer::text` return a slice: their contracts fix its octets, and not the place where they stand.
use Rattle.aes.specs.contracts as aes
use Rattle.answers.specs.contracts as answers
use Rattle.commands.specs.contracts as commands
use Rattle.common.specs.contracts as common
use Rattle.keys.specs.contracts as keys
use Rattle.memory.specs.contracts as memory
use Rattle.modes.specs.contracts as modes
use Rattle.network.specs.contracts as network
use Rattle.node.specs.contracts as node
use Rattle.radio.specs.contracts as radio
use Rattle.receiver.specs.contracts as receiver
use Rattle.sending.specs.contracts as sending
use Rattle.sensor.specs.contracts as sensor
use Rattle.site.specs.contracts as site
use Rattle.speed.specs.contracts as speed
use Rattle.text.specs.contracts as text
use Rattle.transport.specs.contracts as transport
use Rattle.determinacy.specs.Outcome.{DeterminedAs, Determined}

pub record Determinate : Type 2 where
  -- common
  pub common_octet : Determined common.octet.ended (λ _ _. common.octet.clauses)
  pub common_copy : Determined common.copy.ended (λ _ _. common.copy.clauses)
  pub common_equal : Determined common.equal.ended (λ _ _. common.equal.clauses)
  pub common_bits_has : Determined common.bits.has.ended (λ _ _. common.bits.has.clauses)
  pub common_bits_with : Determined common.bits.with.ended (λ _ _. common.bits.with.clauses)
  pub common_bits_all : Determined common.bits.all.ended (λ _ _. common.bits.all.clauses)
  -- aes
  pub aes_encrypt : Determined aes.encrypt.ended (λ _ _. aes.encrypt.clauses)
  pub aes_expand : Determined aes.expand.ended (λ _ _. aes.expand.clauses)
  -- modes
  pub modes_ccm_seal : Determined modes.ccm.seal.ended (λ _ _. modes.ccm.seal.clauses)
  pub modes_ccm_seal_with : Determined modes.ccm.seal_with.ended (λ _ _. modes.ccm.seal_with.clauses)
  pub modes_ccm_open : Determined modes.ccm.open.ended (λ _ _. modes.ccm.open.clauses)
  pub modes_ccm_open_with : Determined modes.ccm.open_with.ended (λ _ _. modes.ccm.open_with.clauses)
  pub modes_cmac_cmac : Determined modes.cmac.cmac.ended (λ _ _. modes.cmac.cmac.clauses)
  -- keys
  pub keys_s1 : Determined keys.s1.ended (λ _ _. keys.s1.clauses)
  pub keys_k2 : Determined keys.k2.ended (λ _ _. keys.k2.clauses)
  pub keys_k4 : Determined keys.k4.ended (λ _ _. keys.k4.clauses)
  pub keys_label_address : Determined keys.label_address.ended (λ _ _. keys.label_address.clauses)
  -- network
  pub network_address_kind : Determined network.address.kind.ended (λ _ _. network.address.kind.clauses)
  pub network_address_is_unicast : Determined network.address.is_unicast.ended (λ _ _. network.address.is_unicast.clauses)
  pub network_address_is_reserved : Determined network.address.is_reserved.ended (λ _ _. network.address.is_reserved.clauses)
  pub network_address_allowed : Determined network.address.allowed.ended (λ _ _. network.address.allowed.clauses)
  pub network_header_none : Determined network.header.none.ended (λ _ _. network.header.none.clauses)
  pub network_iv_index_heard : Determined network.iv_index.heard.ended (λ _ _. network.iv_index.heard.clauses)
  pub network_iv_index_sent : Determined network.iv_index.sent.ended (λ _ _. network.iv_index.sent.clauses)
  pub network_nonce_network : Determined network.nonce.network.ended (λ _ _. network.nonce.network.clauses)
  pub network_nonce_application : Determined network.nonce.application.ended (λ _ _. network.nonce.application.clauses)
  pub network_nonce_device : Determined network.nonce.device.ended (λ _ _. network.nonce.device.clauses)
  pub network_opening_number : Determined network.opening.number.ended (λ _ _. network.opening.number.clauses)
  pub network_opening_open : Determined network.opening.open.ended (λ _ _. network.opening.open.clauses)
  pub network_sealing_number : Determined network.sealing.number.ended (λ _ _. network.sealing.number.clauses)
  pub network_sealing_clear_body : Determined network.sealing.clear_body.ended (λ _ _. network.sealing.clear_body.clauses)
  pub network_sealing_clear_front : Determined network.sealing.clear_front.ended (λ _ _. network.sealing.clear_front.clauses)
  pub network_sealing_seal : Determined network.sealing.seal.ended (λ _ _. network.sealing.seal.clauses)
  pub network_sealing_is_forwarded : Determined network.sealing.is_forwarded.ended (λ _ _. network.sealing.is_forwarded.clauses)
  pub network_sealing_lower : Determined network.sealing.lower.ended (λ _ _. network.sealing.lower.clauses)
  pub network_sealing_forward : Determined network.sealing.forward.ended (λ _ _. network.sealing.forward.clauses)
  -- transport
  pub transport_form_read : Determined transport.form.read.ended (λ _ _. transport.form.read.clauses)
  pub transport_opcode_kind : Determined transport.opcode.kind.ended (λ _ _. transport.opcode.kind.clauses)
  pub transport_securing_secure : Determined transport.securing.secure.ended (λ _ _. transport.securing.secure.clauses)
  pub transport_securing_open : Determined transport.securing.open.ended (λ _ _. transport.securing.open.clauses)
  pub transport_segment_access_octet : Determined transport.segment.access_octet.ended (λ _ _. transport.segment.access_octet.clauses)
  pub transport_segment_control_octet : Determined transport.segment.control_octet.ended (λ _ _. transport.segment.control_octet.clauses)
  pub transport_segment_full_octets : Determined transport.segment.full_octets.ended (λ _ _. transport.segment.full_octets.clauses)
  pub transport_segment_front : Determined transport.segment.front.ended (λ _ _. transport.segment.front.clauses)
  pub transport_segment_acknowledgement : Determined transport.segment.acknowledgement.ended (λ _ _. transport.segment.acknowledgement.clauses)
  pub transport_seq_auth_find : Determined transport.seq_auth.find.ended (λ _ _. transport.seq_auth.find.clauses)
  pub transport_vetting_vet : Determined transport.vetting.vet.ended (λ _ _. transport.vetting.vet.clauses)
  pub transport_vetting_number : Determined transport.vetting.number.ended (λ _ _. transport.vetting.number.clauses)
  -- memory
  pub memory_cache_none : Determined memory.cache.none.ended (λ _ _. memory.cache.none.clauses)
  pub memory_cache_is_seen : Determined memory.cache.is_seen.ended (λ _ _. memory.cache.is_seen.clauses)
  pub memory_cache_remember : Determined memory.cache.remember.ended (λ _ _. memory.cache.remember.clauses)
  pub memory_decision_decide : Determined memory.decision.decide.ended (λ _ _. memory.decision.decide.clauses)
  pub memory_outgoing_none : Determined memory.outgoing.none.ended (λ _ _. memory.outgoing.none.clauses)
  pub memory_outgoing_acknowledge : Determined memory.outgoing.acknowledge.ended (λ _ _. memory.outgoing.acknowledge.clauses)
  pub memory_pair_is_newer : Determined memory.pair.is_newer.ended (λ _ _. memory.pair.is_newer.clauses)
  pub memory_pair_same : Determined memory.pair.same.ended (λ _ _. memory.pair.same.clauses)
  pub memory_pair_max : Determined memory.pair.max.ended (λ _ _. memory.pair.max.clauses)
  pub memory_replay_none : Determined memory.replay.none.ended (λ _ _. memory.replay.none.clauses)
  pub memory_replay_look_up : Determined memory.replay.look_up.ended (λ _ _. memory.replay.look_up.clauses)
  pub memory_replay_is_stale : Determined memory.replay.is_stale.ended (λ _ _. memory.replay.is_stale.clauses)
  pub memory_replay_has_room : Determined memory.replay.has_room.ended (λ _ _. memory.replay.has_room.clauses)
  pub memory_replay_is_last : Determined memory.replay.is_last.ended (λ _ _. memory.replay.is_last.clauses)
  pub memory_replay_accept : Determined memory.replay.accept.ended (λ _ _. memory.replay.accept.clauses)
  pub memory_replay_hand_up : Determined memory.replay.hand_up.ended (λ _ _. memory.replay.hand_up.clauses)
  pub memory_session_none : Determined memory.session.none.ended (λ _ _. memory.session.none.clauses)
  pub memory_session_place : Determined memory.session.place.ended (λ _ _. memory.session.place.clauses)
  pub memory_session_same_terms : Determined memory.session.same_terms.ended (λ _ _. memory.session.same_terms.clauses)
  pub memory_session_begin : Determined memory.session.begin.ended (λ _ _. memory.session.begin.clauses)
  pub memory_session_store : Determined memory.session.store.ended (λ _ _. memory.session.store.clauses)
  pub memory_session_is_complete : Determined memory.session.is_complete.ended (λ _ _. memory.session.is_complete.clauses)
  -- node
  pub node_addresses_none : Determined node.addresses.none.ended (λ _ _. node.addresses.none.clauses)
  pub node_addresses_is_local : Determined node.addresses.is_local.ended (λ _ _. node.addresses.is_local.clauses)
  pub node_addresses_is_for : Determined node.addresses.is_for.ended (λ _ _. node.addresses.is_for.clauses)
  pub node_addresses_held_by : Determined node.addresses.held_by.ended (λ _ _. node.addresses.held_by.clauses)
  pub node_setup_nothing : Determined node.setup.nothing.ended (λ _ _. node.setup.nothing.clauses)
  pub node_setup_counted : Determined node.setup.counted.ended (λ _ _. node.setup.counted.clauses)
  pub node_setup_with_network_key : Determined node.setup.with_network_key.ended (λ _ _. node.setup.with_network_key.clauses)
  pub node_setup_with_application_key : Determined node.setup.with_application_key.ended (λ _ _. node.setup.with_application_key.clauses)
  pub node_setup_with_group : Determined node.setup.with_group.ended (λ _ _. node.setup.with_group.clauses)
  pub node_setup_with_label : Determined node.setup.with_label.ended (λ _ _. node.setup.with_label.clauses)
  pub node_setup_make : Determined node.setup.make.ended (λ _ _. node.setup.make.clauses)
  -- sensor
  pub sensor_list_number : Determined sensor.list.number.ended (λ _ _. sensor.list.number.clauses)
  pub sensor_list_record : Determined sensor.list.record.ended (λ _ _. sensor.list.record.clauses)
  pub sensor_list_count : Determined sensor.list.count.ended (λ _ _. sensor.list.count.clauses)
  pub sensor_properties_number : Determined sensor.properties.number.ended (λ _ _. sensor.properties.number.clauses)
  pub sensor_properties_none : Determined sensor.properties.none.ended (λ _ _. sensor.properties.none.clauses)
  pub sensor_properties_kind_of : Determined sensor.properties.kind_of.ended (λ _ _. sensor.properties.kind_of.clauses)
  pub sensor_properties_name : Determined sensor.properties.name.ended (λ _ _. sensor.properties.name.clauses)
  pub sensor_reading_count : Determined sensor.reading.count.ended (λ _ _. sensor.reading.count.clauses)
  pub sensor_reading_humidity : Determined sensor.reading.humidity.ended (λ _ _. sensor.reading.humidity.clauses)
  pub sensor_reading_temperature : Determined sensor.reading.temperature.ended (λ _ _. sensor.reading.temperature.clauses)
  pub sensor_status_is_status : Determined sensor.status.is_status.ended (λ _ _. sensor.status.is_status.clauses)
  -- receiver
  pub receiver_answer_Refusal_number : Determined receiver.answer.Refusal.number.ended (λ _ _. receiver.answer.Refusal.number.clauses)
  pub receiver_fresh_set_up : Determined receiver.fresh.set_up.ended (λ _ _. receiver.fresh.set_up.clauses)
  pub receiver_give_up_session : Determined receiver.give_up.session.ended (λ _ _. receiver.give_up.session.clauses)
  pub receiver_hear_hear : Determined receiver.hear.hear.ended (λ _ _. receiver.hear.hear.clauses)
  pub receiver_state_Receiver_with_outgoing : Determined receiver.state.Receiver.with_outgoing.ended (λ _ _. receiver.state.Receiver.with_outgoing.clauses)
  -- sending
  pub sending_access_send : Determined sending.access.send.ended (λ _ _. sending.access.send.clauses)
  pub sending_acknowledge_send : Determined sending.acknowledge.send.ended (λ _ _. sending.acknowledge.send.clauses)
  pub sending_control_send : Determined sending.control.send.ended (λ _ _. sending.control.send.clauses)
  pub sending_request_ttl_of : Determined sending.request.ttl_of.ended (λ _ _. sending.request.ttl_of.clauses)
  pub sending_request_is_allowed : Determined sending.request.is_allowed.ended (λ _ _. sending.request.is_allowed.clauses)
  pub sending_segment_send : Determined sending.segment.send.ended (λ _ _. sending.segment.send.clauses)
  pub sending_stop_stop : Determined sending.stop.stop.ended (λ _ _. sending.stop.stop.clauses)
  pub sending_transmission_iv_of : Determined sending.transmission.iv_of.ended (λ _ _. sending.transmission.iv_of.clauses)
  pub sending_transmission_address_of : Determined sending.transmission.address_of.ended (λ _ _. sending.transmission.address_of.clauses)
  -- radio, for C
  pub radio_gorephan_credentials : Determined radio.gorephan_credentials.ended (λ _ _. radio.gorephan_credentials.clauses)
  pub radio_gorephan_open : Determined radio.gorephan_open.ended (λ _ _. radio.gorephan_open.clauses)
  pub radio_gorephan_seal : Determined radio.gorephan_seal.ended (λ _ _. radio.gorephan_seal.clauses)
  -- speed, for C
  pub speed_speed_blocks : Determined speed.speed_blocks.ended (λ _ _. speed.speed_blocks.clauses)
  pub speed_speed_cmac : Determined speed.speed_cmac.ended (λ _ _. speed.speed_cmac.clauses)
  pub speed_speed_open : Determined speed.speed_open.ended (λ _ _. speed.speed_open.clauses)
  pub speed_hearing_speed_hear : Determined speed.hearing.speed_hear.ended (λ _ _. speed.hearing.speed_hear.clauses)
  pub speed_hearing_speed_hear_row : Determined speed.hearing.speed_hear_row.ended (λ _ _. speed.hearing.speed_hear_row.clauses)
  pub speed_hearing_speed_open_pdu : Determined speed.hearing.speed_open_pdu.ended (λ _ _. speed.hearing.speed_open_pdu.clauses)
  -- text
  pub text_first : DeterminedAs text.first.ended (λ _ _. text.first.clauses) (λ _ r. r.now)
  pub text_within : Determined text.within.ended (λ _ _. text.within.clauses)
  pub text_until : Determined text.until.ended (λ _ _. text.until.clauses)
  pub text_put : Determined text.put.ended (λ _ _. text.put.clauses)
  pub text_field_last : DeterminedAs text.field.last.ended (λ _ _. text.field.last.clauses) (λ _ r. r.now)
  pub text_field_nth : DeterminedAs text.field.nth.ended (λ _ _. text.field.nth.clauses) (λ _ r. r.now)
  pub text_hex_value : Determined text.hex.value.ended (λ _ _. text.hex.value.clauses)
  pub text_hex_read : Determined text.hex.read.ended (λ _ _. text.hex.read.clauses)
  pub text_hex_fill : Determined text.hex.fill.ended (λ _ _. text.hex.fill.clauses)
  pub text_number_read : Determined text.number.read.ended (λ _ _. text.number.read.clauses)
  pub text_number_read_up_to : Determined text.number.read_up_to.ended (λ _ _. text.number.read_up_to.clauses)
  pub text_number_read_short : Determined text.number.read_short.ended (λ _ _. text.number.read_short.clauses)
  pub text_number_read_octet : Determined text.number.read_octet.ended (λ _ _. text.number.read_octet.clauses)
  pub text_number_read_bit : Determined text.number.read_bit.ended (λ _ _. text.number.read_bit.clauses)
  pub text_writer_Writer_new : Determined text.writer.Writer.new.ended (λ _ _. text.writer.Writer.new.clauses)
  pub text_writer_Writer_text : DeterminedAs text.writer.Writer.text.ended (λ _ _. text.writer.Writer.text.clauses) (λ _ r. r.now)
  pub text_writer_Writer_put : Determined text.writer.Writer.put.ended (λ _ _. text.writer.Writer.put.clauses)
  pub text_writer_Writer_number : Determined text.writer.Writer.number.ended (λ _ _. text.writer.Writer.number.clauses)
  pub text_writer_Writer_decimal : Determined text.writer.Writer.decimal.ended (λ _ _. text.writer.Writer.decimal.clauses)
  pub text_writer_Writer_hundredths : Determined text.writer.Writer.hundredths.ended (λ _ _. text.writer.Writer.hundredths.clauses)
  pub text_writer_Writer_hex : Determined text.writer.Writer.hex.ended (λ _ _. text.writer.Writer.hex.clauses)
  pub text_writer_Writer_refused : Determined text.writer.Writer.refused.ended (λ _ _. text.writer.Writer.refused.clauses)
  pub text_writer_Writer_refused_line : Determined text.writer.Writer.refused_line.ended (λ _ _. text.writer.Writer.refused_line.clauses)
  -- site
  pub site_setting_setup : Determined site.setting.setup.ended (λ _ _. site.setting.setup.clauses)
  pub site_setting_node : Determined site.setting.node.ended (λ _ _. site.setting.node.clauses)
  pub site_words_made : Determined site.words.made.ended (λ _ _. site.words.made.clauses)
  pub site_words_handed_up : Determined site.words.handed_up.ended (λ _ _. site.words.handed_up.clauses)
  pub site_words_put_said : Determined site.words.put_said.ended (λ _ _. site.words.put_said.clauses)
  pub site_words_put_answer : Determined site.words.put_answer.ended (λ _ _. site.words.put_answer.clauses)
  -- commands
  pub commands_desk_start : Determined commands.desk.start.ended (λ _ _. commands.desk.start.clauses)
  pub commands_desk_after_setup : Determined commands.desk.after_setup.ended (λ _ _. commands.desk.after_setup.clauses)
  pub commands_desk_note : Determined commands.desk.note.ended (λ _ _. commands.desk.note.clauses)
  pub commands_line_read : Determined commands.line.read.ended (λ _ _. commands.line.read.clauses)
  -- answers
  pub answers_answer_put_heard : Determined answers.answer.put_heard.ended (λ _ _. answers.answer.put_heard.clauses)
  pub answers_answer_put_forward : Determined answers.answer.put_forward.ended (λ _ _. answers.answer.put_forward.clauses)
  pub answers_answer_put_spoken : Determined answers.answer.put_spoken.ended (λ _ _. answers.answer.put_spoken.clauses)
  pub answers_answer_put_given_up : Determined answers.answer.put_given_up.ended (λ _ _. answers.answer.put_given_up.clauses)
  pub answers_answer_put_set_up : Determined answers.answer.put_set_up.ended (λ _ _. answers.answer.put_set_up.clauses)
  pub answers_answer_put_noted : Determined answers.answer.put_noted.ended (λ _ _. answers.answer.put_noted.clauses)
  pub answers_answer_put_vetted : Determined answers.answer.put_vetted.ended (λ _ _. answers.answer.put_vetted.clauses)
  pub answers_answer_put_unread : Determined answers.answer.put_unread.ended (λ _ _. answers.answer.put_unread.clauses)
  pub answers_looking_put_receiver : Determined answers.looking.put_receiver.ended (λ _ _. answers.looking.put_receiver.clauses)
  pub answers_readings_put_readings : Determined answers.readings.put_readings.ended (λ _ _. answers.readings.put_readings.clauses)
