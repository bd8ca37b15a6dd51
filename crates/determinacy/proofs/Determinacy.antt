-- Each contract has a clause that is an equation, with the outcome alone on its left side; so a line says only how the outcome is read off that side, `d`:
-- the result, then what is left behind each parameter in turn, `tt` for one that is no `&mut`; where nothing is lent, that is `o.1`, which holds nothing.
-- A clause that leaves a part of the outcome out has no such line. Of the two clauses of `text::within` and `text::until` one is such an equation. Assumes nothing.
use Rattle.determinacy.specs.Determinacy.{Determinate}
use Rattle.determinacy.proofs.OutcomeLaws.{of_one, of_first, of_second}

pub determinate : Determinate
determinate =
    record {
      -- common
      common_octet = λ m _ o _. of_one m (λ d. (d, o.1));
      common_copy = λ m _ _ _. of_one m (λ d. (tt, (tt, (d, tt))));
      common_equal = λ m _ o _. of_one m (λ d. (d, o.1));
      common_bits_has = λ m _ o _. of_one m (λ d. (d, o.1));
      common_bits_with = λ m _ o _. of_one m (λ d. (d, o.1));
      common_bits_all = λ m _ o _. of_one m (λ d. (d, o.1));
      -- aes
      aes_encrypt = λ m _ o _. of_one m (λ d. (d, o.1));
      aes_expand = λ m _ o _. of_one m (λ d. (d, o.1));
      -- modes
      modes_ccm_seal = λ m _ _ _. of_one m (λ d. (d.answer, (tt, (tt, (tt, (tt, (d.buffer, tt)))))));
      modes_ccm_seal_with = λ m _ _ _. of_one m (λ d. (d.answer, (tt, (tt, (tt, (tt, (tt, (d.buffer, tt))))))));
      modes_ccm_open = λ m _ _ _. of_one m (λ d. (d.answer, (tt, (tt, (tt, (tt, (d.buffer, tt)))))));
      modes_ccm_open_with = λ m _ _ _. of_one m (λ d. (d.answer, (tt, (tt, (tt, (tt, (tt, (d.buffer, tt))))))));
      modes_cmac_cmac = λ m _ o _. of_one m (λ d. (d, o.1));
      -- keys
      keys_s1 = λ m _ o _. of_one m (λ d. (d, o.1));
      keys_k2 = λ m _ o _. of_one m (λ d. (d, o.1));
      keys_k4 = λ m _ o _. of_one m (λ d. (d, o.1));
      keys_label_address = λ m _ o _. of_one m (λ d. (d, o.1));
      -- network
      network_address_kind = λ m _ o _. of_one m (λ d. (d, o.1));
      network_address_is_unicast = λ m _ o _. of_one m (λ d. (d, o.1));
      network_address_is_reserved = λ m _ o _. of_one m (λ d. (d, o.1));
      network_address_allowed = λ m _ o _. of_one m (λ d. (d, o.1));
      network_header_none = λ m _ o _. of_one m (λ d. (d, o.1));
      network_iv_index_heard = λ m _ o _. of_one m (λ d. (d, o.1));
      network_iv_index_sent = λ m _ o _. of_one m (λ d. (d, o.1));
      network_nonce_network = λ m _ o _. of_one m (λ d. (d, o.1));
      network_nonce_application = λ m _ o _. of_one m (λ d. (d, o.1));
      network_nonce_device = λ m _ o _. of_one m (λ d. (d, o.1));
      network_opening_number = λ m _ o _. of_one m (λ d. (d, o.1));
      network_opening_open = λ m _ o _. of_one m (λ d. (d, o.1));
      network_sealing_number = λ m _ o _. of_one m (λ d. (d, o.1));
      network_sealing_clear_body = λ m _ o _. of_one m (λ d. (d, o.1));
      network_sealing_clear_front = λ m _ o _. of_one m (λ d. (d, o.1));
      network_sealing_seal = λ m _ _ _. of_one m (λ d. (d.answer, (tt, (tt, (d.buffer, tt)))));
      network_sealing_is_forwarded = λ m _ o _. of_one m (λ d. (d, o.1));
      network_sealing_lower = λ m _ o _. of_one m (λ d. (d, o.1));
      network_sealing_forward = λ m _ _ _. of_one m (λ d. (d.answer, (tt, (tt, (d.buffer, tt)))));
      -- transport
      transport_form_read = λ m _ o _. of_one m (λ d. (d, o.1));
      transport_opcode_kind = λ m _ o _. of_one m (λ d. (d, o.1));
      transport_securing_secure = λ m _ _ _. of_one m (λ d. (d.answer, (tt, (tt, (tt, (tt, (d.buffer, tt)))))));
      transport_securing_open = λ m _ _ _. of_one m (λ d. (d.answer, (tt, (tt, (tt, (d.buffer, tt))))));
      transport_segment_access_octet = λ m _ o _. of_one m (λ d. (d, o.1));
      transport_segment_control_octet = λ m _ o _. of_one m (λ d. (d, o.1));
      transport_segment_full_octets = λ m _ o _. of_one m (λ d. (d, o.1));
      transport_segment_front = λ m _ o _. of_one m (λ d. (d, o.1));
      transport_segment_acknowledgement = λ m _ o _. of_one m (λ d. (d, o.1));
      transport_seq_auth_find = λ m _ o _. of_one m (λ d. (d, o.1));
      transport_vetting_vet = λ m _ _ _. of_one m (λ d. (d.answer, (tt, (tt, (d.buffer, tt)))));
      transport_vetting_number = λ m _ o _. of_one m (λ d. (d, o.1));
      -- memory
      memory_cache_none = λ m _ o _. of_one m (λ d. (d, o.1));
      memory_cache_is_seen = λ m _ o _. of_one m (λ d. (d, o.1));
      memory_cache_remember = λ m _ o _. of_one m (λ d. (d, o.1));
      memory_decision_decide = λ m _ o _. of_one m (λ d. (d, o.1));
      memory_outgoing_none = λ m _ o _. of_one m (λ d. (d, o.1));
      memory_outgoing_acknowledge = λ m _ o _. of_one m (λ d. (d, o.1));
      memory_pair_is_newer = λ m _ o _. of_one m (λ d. (d, o.1));
      memory_pair_same = λ m _ o _. of_one m (λ d. (d, o.1));
      memory_pair_max = λ m _ o _. of_one m (λ d. (d, o.1));
      memory_replay_none = λ m _ o _. of_one m (λ d. (d, o.1));
      memory_replay_look_up = λ m _ o _. of_one m (λ d. (d, o.1));
      memory_replay_is_stale = λ m _ o _. of_one m (λ d. (d, o.1));
      memory_replay_has_room = λ m _ o _. of_one m (λ d. (d, o.1));
      memory_replay_is_last = λ m _ o _. of_one m (λ d. (d, o.1));
      memory_replay_accept = λ m _ o _. of_one m (λ d. (d, o.1));
      memory_replay_hand_up = λ m _ o _. of_one m (λ d. (d, o.1));
      memory_session_none = λ m _ o _. of_one m (λ d. (d, o.1));
      memory_session_place = λ m _ o _. of_one m (λ d. (d, o.1));
      memory_session_same_terms = λ m _ o _. of_one m (λ d. (d, o.1));
      memory_session_begin = λ m _ o _. of_one m (λ d. (d, o.1));
      memory_session_store = λ m _ o _. of_one m (λ d. (d, o.1));
      memory_session_is_complete = λ m _ o _. of_one m (λ d. (d, o.1));
      -- node
      node_addresses_none = λ m _ o _. of_one m (λ d. (d, o.1));
      node_addresses_is_local = λ m _ o _. of_one m (λ d. (d, o.1));
      node_addresses_is_for = λ m _ o _. of_one m (λ d. (d, o.1));
      node_addresses_held_by = λ m _ o _. of_one m (λ d. (d, o.1));
      node_setup_nothing = λ m _ o _. of_one m (λ d. (d, o.1));
      node_setup_counted = λ m _ o _. of_one m (λ d. (d, o.1));
      node_setup_with_network_key = λ m _ o _. of_one m (λ d. (d, o.1));
      node_setup_with_application_key = λ m _ o _. of_one m (λ d. (d, o.1));
      node_setup_with_group = λ m _ o _. of_one m (λ d. (d, o.1));
      node_setup_with_label = λ m _ o _. of_one m (λ d. (d, o.1));
      node_setup_make = λ m _ o _. of_one m (λ d. (d, o.1));
      -- sensor
      sensor_list_number = λ m _ o _. of_one m (λ d. (d, o.1));
      sensor_list_record = λ m _ o _. of_one m (λ d. (d, o.1));
      sensor_list_count = λ m _ o _. of_one m (λ d. (d, o.1));
      sensor_properties_number = λ m _ o _. of_one m (λ d. (d, o.1));
      sensor_properties_none = λ m _ o _. of_one m (λ d. (d, o.1));
      sensor_properties_kind_of = λ m _ o _. of_one m (λ d. (d, o.1));
      sensor_properties_name = λ m _ o _. of_one m (λ d. (d, o.1));
      sensor_reading_count = λ m _ o _. of_one m (λ d. (d, o.1));
      sensor_reading_humidity = λ m _ o _. of_one m (λ d. (d, o.1));
      sensor_reading_temperature = λ m _ o _. of_one m (λ d. (d, o.1));
      sensor_status_is_status = λ m _ o _. of_one m (λ d. (d, o.1));
      -- receiver
      receiver_answer_Refusal_number = λ m _ o _. of_one m (λ d. (d, o.1));
      receiver_fresh_set_up = λ m _ o _. of_one m (λ d. (d, o.1));
      receiver_give_up_session = λ m _ o _. of_one m (λ d. (d, o.1));
      receiver_hear_hear = λ m _ _ _. of_one m (λ d. (d.heard, (tt, (tt, (d.forward, (d.message, tt))))));
      receiver_state_Receiver_with_outgoing = λ m _ o _. of_one m (λ d. (d, o.1));
      -- sending
      sending_access_send = λ m _ _ _. of_one m (λ d. (d.answer, (tt, (tt, (tt, (tt, (tt, (d.buffer, tt))))))));
      sending_acknowledge_send = λ m _ _ _. of_one m (λ d. (d.answer, (tt, (tt, (tt, (d.buffer, tt))))));
      sending_control_send = λ m _ _ _. of_one m (λ d. (d.answer, (tt, (tt, (tt, (tt, (d.buffer, tt)))))));
      sending_request_ttl_of = λ m _ o _. of_one m (λ d. (d, o.1));
      sending_request_is_allowed = λ m _ o _. of_one m (λ d. (d, o.1));
      sending_segment_send = λ m _ _ _. of_one m (λ d. (d.answer, (tt, (tt, (d.buffer, tt)))));
      sending_stop_stop = λ m _ o _. of_one m (λ d. (d, o.1));
      sending_transmission_iv_of = λ m _ o _. of_one m (λ d. (d, o.1));
      sending_transmission_address_of = λ m _ o _. of_one m (λ d. (d, o.1));
      -- radio
      radio_gorephan_credentials = λ m _ _ _. of_one m (λ d. (d.answer, (tt, (d.buffer, tt))));
      radio_gorephan_open = λ m _ _ _. of_one m (λ d. (d.answer, (tt, (tt, (tt, (d.buffer, tt))))));
      radio_gorephan_seal = λ m _ _ _. of_one m (λ d. (d.answer, (tt, (tt, (tt, (tt, (tt, (tt, (tt, (tt, (d.buffer, tt)))))))))));
      -- speed
      speed_speed_blocks = λ m _ _ _. of_one m (λ d. (d.answer, (tt, (d.buffer, (tt, tt)))));
      speed_speed_cmac = λ m _ _ _. of_one m (λ d. (d.answer, (tt, (tt, (d.buffer, tt)))));
      speed_speed_open = λ m _ _ _. of_one m (λ d. (d.answer, (tt, (tt, (tt, (d.buffer, tt))))));
      speed_hearing_speed_hear = λ m _ _ _. of_one m (λ d. (d.answer, (tt, (tt, (tt, (tt, (tt, (d.buffer, (tt, tt)))))))));
      speed_hearing_speed_hear_row = λ m _ _ _. of_one m (λ d. (d.answer, (tt, (tt, (tt, (tt, (d.buffer, tt)))))));
      speed_hearing_speed_open_pdu = λ m _ o _. of_one m (λ d. (d, o.1));
      -- text
      text_first = λ m _ o _. of_one m (λ d. (d, o.1));
      text_within = λ m _ o _. of_second m (λ d. (d, o.1));
      text_until = λ m _ o _. of_first m (λ d. (d, o.1));
      text_put = λ m _ _ _. of_one m (λ d. (d.answer, (tt, (d.buffer, (tt, tt)))));
      text_field_last = λ m _ o _. of_one m (λ d. (d, o.1));
      text_field_nth = λ m _ o _. of_one m (λ d. (d, o.1));
      text_hex_value = λ m _ o _. of_one m (λ d. (d, o.1));
      text_hex_read = λ m _ _ _. of_one m (λ d. (d.answer, (tt, (d.buffer, tt))));
      text_hex_fill = λ m _ _ _. of_one m (λ d. (d.answer, (tt, (d.buffer, tt))));
      text_number_read = λ m _ o _. of_one m (λ d. (d, o.1));
      text_number_read_up_to = λ m _ o _. of_one m (λ d. (d, o.1));
      text_number_read_short = λ m _ o _. of_one m (λ d. (d, o.1));
      text_number_read_octet = λ m _ o _. of_one m (λ d. (d, o.1));
      text_number_read_bit = λ m _ o _. of_one m (λ d. (d, o.1));
      text_writer_Writer_new = λ m _ o _. of_one m (λ d. (d, o.1));
      text_writer_Writer_text = λ m _ o _. of_one m (λ d. (d, o.1));
      text_writer_Writer_put = λ m _ _ _. of_one m (λ d. (tt, (d, (tt, tt))));
      text_writer_Writer_number = λ m _ _ _. of_one m (λ d. (tt, (d, (tt, (tt, (tt, tt))))));
      text_writer_Writer_decimal = λ m _ _ _. of_one m (λ d. (tt, (d, (tt, (tt, tt)))));
      text_writer_Writer_hundredths = λ m _ _ _. of_one m (λ d. (tt, (d, (tt, (tt, (tt, tt))))));
      text_writer_Writer_hex = λ m _ _ _. of_one m (λ d. (tt, (d, (tt, tt))));
      text_writer_Writer_refused = λ m _ _ _. of_one m (λ d. (tt, (d, (tt, tt))));
      text_writer_Writer_refused_line = λ m _ _ _. of_one m (λ d. (tt, (d, (tt, tt))));
      -- site
      site_setting_setup = λ m _ o _. of_one m (λ d. (d, o.1));
      site_setting_node = λ m _ o _. of_one m (λ d. (d, o.1));
      site_words_made = λ m _ o _. of_one m (λ d. (d, o.1));
      site_words_handed_up = λ m _ o _. of_one m (λ d. (d, o.1));
      site_words_put_said = λ m _ _ _. of_one m (λ d. (tt, (tt, (tt, (tt, (d, tt))))));
      site_words_put_answer = λ m _ _ _. of_one m (λ d. (tt, (tt, (d, tt))));
      -- commands
      commands_desk_start = λ m _ o _. of_one m (λ d. (d, o.1));
      commands_desk_after_setup = λ m _ o _. of_one m (λ d. (d, o.1));
      commands_desk_note = λ m _ o _. of_one m (λ d. (d, o.1));
      commands_line_read = λ m _ _ _. of_one m (λ d. (d.answer, (tt, (tt, (d.buffer, tt)))));
      -- answers
      answers_answer_put_heard = λ m _ _ _. of_one m (λ d. (tt, (tt, (tt, (tt, (d, tt))))));
      answers_answer_put_forward = λ m _ _ _. of_one m (λ d. (tt, (tt, (d, tt))));
      answers_answer_put_spoken = λ m _ _ _. of_one m (λ d. (tt, (tt, (tt, (d, tt)))));
      answers_answer_put_given_up = λ m _ _ _. of_one m (λ d. (tt, (tt, (d, tt))));
      answers_answer_put_set_up = λ m _ _ _. of_one m (λ d. (tt, (tt, (d, tt))));
      answers_answer_put_noted = λ m _ _ _. of_one m (λ d. (tt, (tt, (d, tt))));
      answers_answer_put_vetted = λ m _ _ _. of_one m (λ d. (tt, (tt, (tt, (d, tt)))));
      answers_answer_put_unread = λ m _ _ _. of_one m (λ d. (tt, (d, tt)));
      answers_looking_put_receiver = λ m _ _ _. of_one m (λ d. (tt, (tt, (d, tt))));
      answers_readings_put_readings = λ m _ _ _. of_one m (λ d. (tt, (tt, (tt, (d, tt)))));
    }
